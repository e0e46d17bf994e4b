use Rattle.std.proofs.Common.{false, ◌≡◌, ◌+◌, ◌*◌, ◌/◌, ◌<◌, length}
use Rattle.cell_core.specs.Laid.{AreOfKind}
use Rattle.cell_core.proofs.block.lay.Given as goal

-- the words before this one are laid, and are whole as long as cells are left
abbrev pub invariant-words : goal.invariant-words
invariant-words g l = (l.laid.heap ≡ l.fn.laid.heap) × (l.laid.rows.at ≡ l.fn.laid.rows.at) × (l.laid.rows.rooms ≡ l.fn.laid.rows.rooms)
    × (l.laid.rows.words ≡ l.word) × (l.laid.rows.left ≡ l.left) × (length l.laid.cells + l.left ≡ l.n)
    × (0 < l.left → length l.laid.cells ≡ l.word * 16) × (l.left ≡ 0 → l.word ≡ (l.n + 15) / 16)
    × (l.laid.rows.more + l.word ≡ (l.n + 15) / 16) × AreOfKind false l.laid.cells

abbrev pub decreases-words : goal.decreases-words
decreases-words g l = l.left
