use Rattle.std.proofs.Common.{◌≡◌, length}
use Rattle.std.specs.Vec.Iter.{into_iter_items, into_iter_len}
use Rattle.span_core.specs.Loops.{AnswersAt}
use Rattle.span_core.proofs.Tiles.{Reaches}
use Rattle.span_core.proofs.map.MapLeaf.flatten.Given as goal

abbrev pub invariant-loop-part : goal.invariant-loop-part
invariant-loop-part g l =
    Reaches (λ part. part.items) (AnswersAt (goal.F-post g l.self.f.now) l.self.list.now.members)
    l.fn.span.from l.fn.span.to l.all.items (into_iter_items l.part-iterator)
    × (into_iter_len l.part-iterator ≡ length (into_iter_items l.part-iterator))
