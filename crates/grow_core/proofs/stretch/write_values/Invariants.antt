use Rattle.std.proofs.Common.{◌≡◌, ◌++◌, length}
use Rattle.std.specs.Vec.Iter.{into_iter_items}
use Rattle.grow_core.specs.Stretch.{IsCounted}
use Rattle.grow_core.proofs.stretch.write_values.Given as goal

abbrev pub invariant-loop : goal.invariant-loop
invariant-loop g l =
    (l.pen.offset ≡ l.fn.pen.offset)
    × (l.pen.cells ≡ l.fn.pen.cells)
    × (into_iter_items l.fn.values ≡ l.pen.values ++ into_iter_items l.left)
    × IsCounted l.left
    × (length l.pen.values ≡ l.counter)
