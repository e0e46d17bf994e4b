use Rattle.std.proofs.Common.{◌≡◌, ◌≤◌, length, take}
use Rattle.std.specs.Prelude.{filter, is_some}
use Rattle.grow_core.specs.Vector.{base_of, limit_of}
use Rattle.grow_core.proofs.vector.Shared.published_count.Given as goal

abbrev pub invariant-loop-item : goal.invariant-loop-item
invariant-loop-item g l =
    (goal.iterator-loop-item g).can_next l.item-iterator
    × (goal.iterator-loop-item g).is_finite l.item-iterator
    × (l.item-iterator.vector ≡ l.self)
    × (base_of l.self ≤ l.item-iterator.end)
    × (l.item-iterator.end ≤ limit_of l.self)
    × (l.count ≤ l.item-iterator.place)
    × (length (filter is_some (take l.item-iterator.place l.self.opened)) ≤ l.count)
