use Rattle.std.proofs.Common.{◌≡◌, ◌-◌, ◌≤◌, ◌++◌, None, length, replicate}
use Rattle.quiet_core.proofs.room.break_to.Given as goal

abbrev pub invariant-loop-parts : goal.invariant-loop-parts
invariant-loop-parts g l =
    (l.parts.members ≡ l.initial.parts.members ++ replicate (length l.parts.members - length l.initial.parts.members) None)
    × (length l.initial.parts.members ≤ length l.parts.members) × (length l.parts.members ≤ l.n)
    × (l.parts ≡ record l.initial.parts { members = l.parts.members; closed = l.parts.closed })

abbrev pub decreases-loop-parts : goal.decreases-loop-parts
decreases-loop-parts g l = l.n - length l.parts.members
