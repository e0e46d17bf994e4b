use Rattle.std.proofs.Common.{◌≡◌, ◌+◌, ◌≤◌, ◌++◌, map, reverse, length, Some, vec_len, vec_capacity}
use Rattle.grow_core.specs.PopSegment.{IsUnbroken}
use Rattle.grow_core.proofs.parts.Parts.into_values.Given as goal

abbrev pub invariant-segments : goal.invariant-segments
invariant-segments g l = IsUnbroken l.parts.members
    × (l.initial.parts.members ≡ l.parts.members ++ map Some (reverse l.values.items))
    × (vec_len l.values + length l.parts.members ≤ vec_capacity l.values)

abbrev pub decreases-segments : goal.decreases-segments
decreases-segments g l = length l.parts.members
