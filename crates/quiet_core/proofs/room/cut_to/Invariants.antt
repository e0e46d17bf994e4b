use Rattle.std.proofs.Common.{◌≡◌, ◌≤◌, length, take}
use Rattle.quiet_core.proofs.room.cut_to.Given as goal

abbrev pub invariant-loop-parts : goal.invariant-loop-parts
invariant-loop-parts g l =
    (take l.n l.parts.members ≡ take l.n l.initial.parts.members) × (l.n ≤ length l.parts.members)
    × (l.parts ≡ record l.initial.parts { members = l.parts.members; closed = l.parts.closed })

abbrev pub decreases-loop-parts : goal.decreases-loop-parts
decreases-loop-parts g l = length l.parts.members
