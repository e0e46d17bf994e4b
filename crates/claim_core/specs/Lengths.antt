-- Runs of places, kept as the list of their lengths: the first begins at a base, and each other one where the
-- one before it ends.
use Rattle.std.specs.Prelude.{ℕ, ◌+◌, ◌-◌, ◌<◌, ◌≤◌, ◌==◌, ◌≡◌, min, if◌then◌else◌, List, [], ◌∷◌, length, take, slice_index}
use Rattle.std.specs.List.{sum, sum_by, Contains}

-- the end of the runs: the base plus the sum of their lengths
abbrev pub runs_end : ℕ → List ℕ → ℕ
runs_end base lengths = base + sum lengths

-- where run k begins: the base plus the sum of the lengths before it
abbrev pub run_start : ℕ → List ℕ → ℕ → ℕ
run_start base lengths k = base + sum (take k lengths)

-- the place lies in run k
pub record InRun (base : ℕ) (lengths : List ℕ) (k place : ℕ) : Type 0 where
  pub there : k < length lengths
  pub after : run_start base lengths k ≤ place
  pub before : place < run_start base lengths k + slice_index lengths k

-- how many places the runs of these indices have together
abbrev pub places_in : List ℕ → List ℕ → ℕ
places_in lengths indices = sum_by (λ k. slice_index lengths k) indices

-- how often a number is in a list
abbrev pub times : ℕ → List ℕ → ℕ
times k [] = 0
times k (x ∷ xs) = (if x == k then 1 else 0) + times k xs

-- 1 for a number below n, and 0 for any other
abbrev pub once_below : ℕ → ℕ → ℕ
once_below k n = min (n - k) 1

-- the runs of these indices tile the places from the base to the end: each place lies in one of them, and no
-- place in two runs
pub record Tiles (base : ℕ) (lengths indices : List ℕ) : Type 0 where
  pub covers : (place : ℕ) → base ≤ place → place < runs_end base lengths
      → (k : ℕ) × Contains indices k × InRun base lengths k place
  pub within : (k place : ℕ) → InRun base lengths k place → (base ≤ place) × (place < runs_end base lengths)
  pub apart : (j k place : ℕ) → InRun base lengths j place → InRun base lengths k place → j ≡ k
