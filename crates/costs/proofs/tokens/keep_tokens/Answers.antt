use Rattle.std.proofs.Common.{sym, subst}
use Rattle.std.proofs.lemmas.List.Elements.{All-push}
use Rattle.std.specs.List.{All}
use Rattle.grow_core.specs.Vector.{IsPlacedOf}
use Rattle.costs.proofs.tokens.keep_tokens.Goals as goal

pub loop-i-preserved : goal.loop-i-preserved
loop-i-preserved c =
    subst (All (IsPlacedOf c.args._vector.now)) (sym c.in_ok-push.ensures.items)
    (All-push (IsPlacedOf c.args._vector.now) c.loop-i.kept.items c.placed.result c.loop-i.invariant (c.placed.ensures.of c.args._vector.now c.requires.ours))
