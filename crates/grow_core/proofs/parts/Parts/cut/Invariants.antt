use Rattle.std.proofs.Common.{◌≡◌, ◌≤◌}
use Rattle.grow_core.proofs.parts.Parts.cut.Given as goal

abbrev pub invariant-loop-self : goal.invariant-loop-self
invariant-loop-self g l = (l.self ≡ record l.initial.self { segments = l.self.segments; closed = l.self.closed }) × (l.self.segments ≤ l.initial.self.segments)

abbrev pub decreases-loop-self : goal.decreases-loop-self
decreases-loop-self g l = l.self.segments
