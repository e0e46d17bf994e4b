use Rattle.std.proofs.Common.{subst, sym}
use Rattle.claim_core.specs.Hand.{HandView}
use Rattle.grow_core.specs.Keys.{IsKeyed}
use Rattle.grow_core.specs.Ties.{KnowsRows}
use Rattle.grow_core.proofs.vector.Shared.split.Goals as goal

pub invariant_of-hand : goal.invariant_of-hand
invariant_of-hand g c =
    let keys = c.hand.inside.keys in
    subst (λ (h : HandView). IsKeyed h keys × KnowsRows h keys) (sym c.split.ensures.kept) (record { keys = c.hand.invariant.0.keys; own = c.hand.invariant.0.own }, c.hand.invariant.1)
