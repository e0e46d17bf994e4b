use Rattle.std.proofs.Common.{◌≡◌, ℕ, ◌-◌, ◌<◌, ◌≤◌}
use Rattle.seg_core.specs.Segment.{segment_start, segment_count}
use Rattle.grow_core.proofs.parts.Parts.room.Given as goal

abbrev pub invariant-loop-self : goal.invariant-loop-self
invariant-loop-self g l = (l.self ≡ record l.initial.self { segments = l.self.segments; closed = l.self.closed }) × (l.initial.self.segments ≤ l.self.segments)
    × ((k : ℕ) → l.initial.self.segments ≤ k → k < l.self.segments → segment_start l.initial.self.layout k < l.n)

abbrev pub decreases-loop-self : goal.decreases-loop-self
decreases-loop-self g l = segment_count l.initial.self.layout - l.self.segments
