use Rattle.std.proofs.Common.{◌≡◌, ◌+◌, ◌-◌, ◌≤◌, List, length}
use Rattle.std.specs.List.{FoldsTo}
use Rattle.grow_core.specs.Token.{SpoiltView}
use Rattle.grow_core.specs.BrokenRun.{AreBrokenFrom}
use Rattle.grow_core.specs.Segment.{IsSegmentOf, KnowsSegment}
use Rattle.grow_core.specs.Logs.{break_steps}
use Rattle.grow_core.specs.Steps.{WorksIn, AddsOn}
use Rattle.grow_core.proofs.vector.Shared.break_rest.Given as goal

abbrev pub invariant-loop-place : goal.invariant-loop-place
invariant-loop-place g l =
    ((tokens : List SpoiltView) × AreBrokenFrom l.self (l.fn.run.from + l.fn.first) tokens
    × FoldsTo (λ k token next. goal.K-step g k token tt next) l.fn.keep tokens l.keep × (l.place ≡ l.fn.run.from + l.fn.first + length tokens))
    × IsSegmentOf l.self l.segment
    × (l.segment.from ≤ l.place)
    × (l.place ≤ l.segment.end)
    × KnowsSegment l.hand l.segment
    × WorksIn l.fn.hand l.hand (l.fn.run.from + l.fn.first) (l.place - (l.fn.run.from + l.fn.first))
    × AddsOn l.fn.hand l.hand l.fn.run
    (λ index. break_steps index (l.fn.run.from + l.fn.first) (l.place - (l.fn.run.from + l.fn.first)))
    × goal.K-IsAlwaysCallable g l.keep
