-- How long the list is that a history leads to.
use Rattle.std.proofs.Common.{◌≡◌, ℕ, ◌+◌, Bool, true, false, nat_lt, List, [], ◌∷◌, length, map, filter, refl, arith}
use Rattle.std.proofs.lemmas.List.FromFn.{length-map-range_with_len}
use Rattle.std.proofs.lemmas.List.Sums.{sum_by-append}
use Rattle.std.proofs.lemmas.Bool.Decides.{nat_tests}
use Rattle.std.specs.List.{sum}
use Rattle.book_core.specs.Cells.{CellList}
use Rattle.book_core.specs.History.{IsHistory, OwnedRun, runs_of, Tile}
use Rattle.book_core.specs.Laws.{HistoriesTile}
use Rattle.claim_core.specs.History.{Log, first_cell, first_list, lengths_of}
use Rattle.claim_core.specs.Lengths.{runs_end}

abbrev sum_lengths : List OwnedRun → ℕ
sum_lengths runs = sum (map (λ (run : OwnedRun). run.n) (filter (λ (run : OwnedRun). nat_lt 0 run.n) runs))

sum_cons : (x : ℕ) (xs : List ℕ) → sum (x ∷ xs) ≡ x + sum xs
sum_cons x xs = omega (arith, sum_by-append (λ y. y) (x ∷ []) xs)

sum_of_next : (run : OwnedRun) (runs : List OwnedRun) (b : Bool) → nat_lt 0 run.n ≡ b → sum_lengths (run ∷ runs) ≡ run.n + sum_lengths runs
sum_of_next run runs true is =
    rw is (sum_cons run.n (map (λ (run : OwnedRun). run.n) (filter (λ (run : OwnedRun). nat_lt 0 run.n) runs)))
sum_of_next run runs false is = let none : run.n ≡ 0 = grind (arith, nat_tests) in rw is (omega arith)

-- runs that tile the places from one on end at their sum
tiled : (start end : ℕ) (runs : List OwnedRun) → Tile start runs end → end ≡ start + sum_lengths runs
tiled start end [] tile = omega (arith, tile)
tiled start end (run ∷ runs) tile =
    let rest = tiled (start + run.n) end runs tile.1 in
    let next = sum_of_next run runs (nat_lt 0 run.n) refl in
    omega arith

-- it is as long as the base and all runs together
pub cells_after : HistoriesTile → (limit base : ℕ) (filled : List Bool) (log : Log) (new : CellList) → IsHistory (first_list limit base filled) log new
    → length new.cells ≡ runs_end base (lengths_of log)
cells_after law limit base filled log new history =
    let first : length (first_list limit base filled).cells ≡ base = length-map-range_with_len (first_cell filled) 0 base in
    let end = tiled (length (first_list limit base filled).cells) (length new.cells) (runs_of log) (law (first_list limit base filled) new log history) in
    omega arith
