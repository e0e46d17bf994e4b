use Rattle.std.proofs.Common.{◌≡◌, ◌<◌, ◌≤◌, ◌-◌, ℕ, length}
use Rattle.cell_core.specs.Laid.{IsAnother}
use Rattle.cell_core.specs.Slot.{cell_in}
use Rattle.cell_core.proofs.block.drop_values.Given as goal

-- the cells before this one have fresh names, and the others have theirs
abbrev pub invariant-cells : goal.invariant-cells
invariant-cells g l = (l.laid.heap ≡ l.fn.laid.heap) × (l.laid.rows ≡ l.fn.laid.rows) × (length l.laid.cells ≡ l.len)
    × ((i : ℕ) → i < l.offset → IsAnother (cell_in l.fn.laid.cells i) (cell_in l.laid.cells i))
    × ((i : ℕ) → l.offset ≤ i → cell_in l.laid.cells i ≡ cell_in l.fn.laid.cells i)

abbrev pub decreases-cells : goal.decreases-cells
decreases-cells g l = l.len - l.offset
