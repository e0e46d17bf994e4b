use Rattle.std.proofs.Common.{◌≡◌, ◌-◌, length}
use Rattle.grow_core.proofs.vector.Shared.into_parts.Given as goal

abbrev pub invariant-loop-closing : goal.invariant-loop-closing
invariant-loop-closing g l = l.closing ≡ record l.initial.closing { members = l.closing.members; next = l.closing.next }

abbrev pub decreases-loop-closing : goal.decreases-loop-closing
decreases-loop-closing g l = l.closing.size - length l.closing.members

abbrev pub invariant-loop-closing-2 : goal.invariant-loop-closing-2
invariant-loop-closing-2 g l = (l.closing ≡ record l.initial.closing { next = l.closing.next }) × (length l.closing.members ≡ l.closing.size)

abbrev pub decreases-loop-closing-2 : goal.decreases-loop-closing-2
decreases-loop-closing-2 g l = l.closing.count - l.closing.next
