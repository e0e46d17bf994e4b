use Rattle.std.proofs.Common.{◌≡◌, ◌++◌, Some, map}
use Rattle.std.specs.Vec.Iter.{into_iter_items}
use Rattle.quiet_core.proofs.room.append.Given as goal

abbrev pub invariant-loop-value : goal.invariant-loop-value
invariant-loop-value g l =
    (l.parts.members ≡ l.initial.parts.members ++ map Some l.yielded)
    × (l.yielded ++ into_iter_items l.value-iterator ≡ l.fn.values.items)
    × (l.parts ≡ record l.initial.parts { members = l.parts.members; closed = l.parts.closed })
