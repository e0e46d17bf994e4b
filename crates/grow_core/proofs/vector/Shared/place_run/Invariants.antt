use Rattle.std.proofs.Common.{◌≡◌, ◌+◌, ◌-◌, ◌≤◌, ◌++◌, List, length}
use Rattle.std.specs.List.{FoldsTo}
use Rattle.std.specs.Vec.Iter.{into_iter_items}
use Rattle.grow_core.specs.Token.{PlacedView}
use Rattle.grow_core.specs.Grown.{AreTokensOf}
use Rattle.grow_core.specs.Segment.{IsSegmentOf, KnowsSegment}
use Rattle.grow_core.specs.Stretch.{IsCounted}
use Rattle.grow_core.specs.Logs.{fill_steps}
use Rattle.grow_core.specs.Steps.{WorksIn, AddsOn}
use Rattle.grow_core.proofs.vector.Shared.place_run.Given as goal

abbrev pub invariant-loop-place : goal.invariant-loop-place
invariant-loop-place g l =
    ((done : List g.row.T.Denot) × (tokens : List (PlacedView g.row.T.Denot)) × AreTokensOf l.self l.run.from done tokens
    × FoldsTo (λ k token next. goal.K-step g k token tt next) l.fn.keep tokens l.keep × (l.place ≡ l.run.from + length tokens)
    × (done ++ into_iter_items l.left ≡ l.fn.values.items))
    × IsCounted l.left
    × (l.place + length (into_iter_items l.left) ≡ l.run.from + l.run.n)
    × IsSegmentOf l.self l.segment
    × (l.segment.from ≤ l.place)
    × (l.place ≤ l.segment.end)
    × KnowsSegment l.hand l.segment
    × WorksIn l.fn.hand l.hand l.run.from (l.place - l.run.from)
    × AddsOn l.fn.hand l.hand l.run (λ index. fill_steps index l.run.from (l.place - l.run.from))
    × goal.K-IsAlwaysCallable g l.keep

abbrev pub decreases-loop-place : goal.decreases-loop-place
decreases-loop-place g l = l.run.from + l.run.n - l.place
