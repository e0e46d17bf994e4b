use Rattle.std.proofs.Common.{◌≡◌}
use Rattle.quiet_core.specs.Between.{between}
use Rattle.span_core.specs.Loops.{AnswersAt, SumsUpTo}
use Rattle.span_core.proofs.reduce.ReduceLeafLeafJobOption.work_leaf.Given as goal

abbrev pub invariant-loop-place : goal.invariant-loop-place
invariant-loop-place g l =
    SumsUpTo (goal.J-post g l.self.join.now) g.U.Domain.is_in (AnswersAt (goal.F-post g l.self.f.now) l.self.list.now.members) l.fn.leaf.from l.place l.sum
    × (l.members ≡ between l.self.list.now.members l.place l.fn.leaf.to)
