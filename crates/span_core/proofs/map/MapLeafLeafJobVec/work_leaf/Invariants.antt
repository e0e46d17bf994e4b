use Rattle.std.proofs.Common.{◌≡◌, ◌+◌, length}
use Rattle.quiet_core.specs.Between.{between}
use Rattle.span_core.specs.Each.{EachFrom}
use Rattle.span_core.specs.Loops.{AnswersAt}
use Rattle.span_core.proofs.map.MapLeafLeafJobVec.work_leaf.Given as goal

abbrev pub invariant-loop-place : goal.invariant-loop-place
invariant-loop-place g l =
    EachFrom (AnswersAt (goal.F-post g l.self.f.now) l.self.list.now.members) l.fn.leaf.from l.answers.items
    × (l.fn.leaf.from + length l.answers.items ≡ l.place)
    × (l.members ≡ between l.self.list.now.members l.place l.fn.leaf.to)
