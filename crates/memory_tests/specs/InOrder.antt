-- A rule for tests. The view of a cell's seat is the number of a stage. That of a block's seat is 5 more than a number,
-- and the seats from that number on, up to the block's, show idle cells.
use Rattle.std.specs.Prelude.{◌≡◌, ℕ, ◌+◌, ◌<◌, ◌≤◌, List}
use mathlib.Core.Option.{some}
use lib.ListN.{get_elem?}

-- the view of a block's seat, by the number of the first cell's seat that is idle with all after it
abbrev pub idle_from : ℕ → ℕ
idle_from k = k + 5

abbrev pub AreInOrder : List ℕ → Type 0
AreInOrder views = (j from k x : ℕ) → get_elem? views j ≡ some (idle_from from) → from ≤ k → k < j
    → get_elem? views k ≡ some x → x ≡ 0
