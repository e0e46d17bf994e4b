use Rattle.std.proofs.Common.{◌≡◌, ◌+◌, ◌-◌, ◌≤◌, List, length}
use Rattle.grow_core.specs.Making.{Makes}
use Rattle.grow_core.specs.Filled.{IsFilledOf}
use Rattle.grow_core.specs.Segment.{IsSegmentOf, KnowsSegment}
use Rattle.grow_core.specs.Logs.{fill_steps}
use Rattle.grow_core.specs.Steps.{WorksIn, AddsOn}
use Rattle.grow_core.proofs.vector.Shared.make_run.Given as goal

abbrev pub invariant-loop-i : goal.invariant-loop-i
invariant-loop-i g l =
    ((values : List g.row.T.Denot) × IsFilledOf l.self l.run.from values l.filled × (length values ≡ l.i)
    × Makes (goal.F-step g) l.fn.make values l.make)
    × IsSegmentOf l.self l.segment
    × (l.segment.from ≤ l.run.from + l.i)
    × (l.run.from + l.i ≤ l.segment.end)
    × KnowsSegment l.hand l.segment
    × WorksIn l.fn.hand l.hand l.run.from l.i
    × AddsOn l.fn.hand l.hand l.run (λ index. fill_steps index l.run.from l.i)
    × goal.F-IsAlwaysCallable g l.make
