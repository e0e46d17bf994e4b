use Rattle.std.proofs.Common.{◌≡◌, length}
use Rattle.std.specs.Vec.Iter.{into_iter_items, into_iter_len}
use Rattle.span_core.specs.Loops.{AnswersAt}
use Rattle.span_core.proofs.Folds.{SumReaches}
use Rattle.span_core.proofs.reduce.ReduceLeaf.add_up.Given as goal

abbrev pub invariant-loop-part : goal.invariant-loop-part
invariant-loop-part g l =
    SumReaches (goal.J-post g l.self.join.now) g.U.Domain.is_in (AnswersAt (goal.F-post g l.self.f.now) l.self.list.now.members)
    l.fn.span.from l.fn.span.to l.sum (into_iter_items l.part-iterator)
    × (into_iter_len l.part-iterator ≡ length (into_iter_items l.part-iterator))
