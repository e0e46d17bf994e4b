use Rattle.std.proofs.Common.{◌≡◌, ◌-◌, ◌≤◌, length}
use Rattle.cell_core.specs.Block.{AreAtFilled, AreFilledFrom}
use Rattle.cell_core.proofs.block.Block.filled_row.Given as goal

-- the cells before this one are filled
abbrev pub invariant-words : goal.invariant-words
invariant-words g l = (l.count ≤ l.n) × (length l.row ≡ l.count) × AreFilledFrom l.self l.offset l.row × AreAtFilled l.self l.offset l.count

abbrev pub decreases-words : goal.decreases-words
decreases-words g l = l.n - l.count
