-- Cells next to each other that are found filled are so by their stages.
use Rattle.std.proofs.Common.{◌≡◌, ◌≢◌, ℕ, zero, suc, ◌+◌, ◌-◌, ◌<◌, ◌≤◌, List, ap, ◌∙◌, arith}
use mathlib.Core.Logic.{dite}
use native.Mathlib.Decide.{dec_lt}
use Rattle.cell_core.specs.Slot.{Names, cell_in}
use Rattle.cell_core.specs.Block.{BlockView, cell_at, AreAtFilled, IsOtherAfter}
use Rattle.cell_core.specs.Fixed.{stage_in, ShowStages}
use Rattle.cell_core.specs.Fields.{field}
use Rattle.cell_core.specs.Run.{AreFilledIn, cells_from}
use Rattle.cell_core.proofs.RunParts.{from_length}
use Rattle.cell_core.proofs.Stages.{filled_by_word, other_by_word}

from_cell : (n i : ℕ) (γs : List Names) (j : ℕ) → j < n → cell_in (cells_from n i γs) j ≡ cell_in γs (i + j)
from_cell zero i γs j near = absurd (omega (arith, near))
from_cell (suc n) i γs zero near = ap (cell_in γs) (let z : i ≡ i + 0 = omega arith in z)
from_cell (suc n) i γs (suc j) near = from_cell n (suc i) γs j (omega (arith, near)) ∙ ap (cell_in γs) (let z : suc i + j ≡ i + suc j = omega arith in z)

-- the first cells of a run, by a load of their word
pub run_at_filled : (block : BlockView) (offset n i w count : ℕ) → count ≤ n → AreFilledIn w i count → ShowStages (cells_from n offset block.cells) i w → AreAtFilled block offset count
run_at_filled block offset n i w count few all shown j s less is = let γs : List Names = cells_from n offset block.cells in let long = from_length n offset block.cells in
    filled_by_word γs i w count (omega (arith, long, few)) all shown j s less (ap stage_in (from_cell n offset block.cells j (omega (arith, less, few))) ∙ is)

-- the first m cells, and n more, are k cells or more
pub at_filled_more : (block : BlockView) (offset m n k : ℕ) → AreAtFilled block offset m → AreAtFilled block (offset + m) n → k ≤ m + n → AreAtFilled block offset k
at_filled_more block offset m n k first next most i s less is = dite (dec_lt i m) (λ low. first i s low is)
    (λ high. let there : (offset + m) + (i - m) ≡ offset + i = omega (arith, high) in next (i - m) s (omega (arith, high, less, most)) (ap (λ (p : ℕ). stage_in (cell_at block p)) there ∙ is))

-- the cell after them, by the same load
pub run_other_after : (block : BlockView) (offset n i w count : ℕ) → (count < n → field w (i + count) ≢ 3) → ShowStages (cells_from n offset block.cells) i w → IsOtherAfter block offset count n
run_other_after block offset n i w count other shown less s is = let γs : List Names = cells_from n offset block.cells in let long = from_length n offset block.cells in
    other_by_word γs i w count (omega (arith, long, less)) (other less) shown s (ap stage_in (from_cell n offset block.cells count less) ∙ is)

-- the same, from an earlier cell on
pub other_after_more : (block : BlockView) (offset m count n k : ℕ) → IsOtherAfter block (offset + m) count n → (count < n) → IsOtherAfter block offset (m + count) k
other_after_more block offset m count n k next few less s is = let there : (offset + m) + count ≡ offset + (m + count) = omega arith in
    next few s (ap (λ (p : ℕ). stage_in (cell_at block p)) there ∙ is)
