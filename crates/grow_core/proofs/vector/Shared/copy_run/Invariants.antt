use Rattle.std.proofs.Common.{◌+◌, ◌-◌, ◌≤◌, take}
use Rattle.grow_core.specs.Filled.{IsFilledOf}
use Rattle.grow_core.specs.Segment.{IsSegmentOf, KnowsSegment}
use Rattle.grow_core.specs.Logs.{fill_steps}
use Rattle.grow_core.specs.Steps.{WorksIn, AddsOn}
use Rattle.grow_core.proofs.vector.Shared.copy_run.Given as goal

abbrev pub invariant-loop-done : goal.invariant-loop-done
invariant-loop-done g l =
    IsFilledOf l.self l.run.from (take l.done (g.S.Source.values l.source)) l.filled
    × (l.done ≤ l.run.n)
    × IsSegmentOf l.self l.segment
    × (l.segment.from ≤ l.run.from + l.done)
    × (l.run.from + l.done ≤ l.segment.end)
    × KnowsSegment l.hand l.segment
    × WorksIn l.fn.hand l.hand l.run.from l.done
    × AddsOn l.fn.hand l.hand l.run (λ index. fill_steps index l.run.from l.done)

abbrev pub decreases-loop-done : goal.decreases-loop-done
decreases-loop-done g l = l.run.n - l.done
