-- Runs lie one after another, and tile.
use Rattle.std.proofs.Common.{◌≡◌, ℕ, zero, suc, ◌+◌, ◌<◌, ◌≤◌, List, [], ◌∷◌, length, get_or, take, ap, sym, ◌∙◌, arith}
use Rattle.std.specs.List.{Contains, sum}
use Rattle.std.proofs.lemmas.List.{take-append-le}
use Rattle.std.proofs.lemmas.List.Prefix.{front_reads}
use Rattle.std.proofs.lemmas.List.Sums.{sum_by-cons, sum_by_more_le}
use mathlib.Core.List.{IsPrefix}
use mathlib.Core.Logic.{dite}
use native.Mathlib.Decide.{dec_le}
use Rattle.claim_core.specs.Lengths.{runs_end, InRun, Tiles}
use Rattle.claim_core.proofs.Prefixes.{prefix_length}

-- no run goes past the end
pub run_within : (xs : List ℕ) (k : ℕ) → k < length xs → sum (take k xs) + get_or xs k 0 ≤ sum xs
run_within xs k lt = sum_by_more_le (λ x. x) xs k 0 lt

-- an earlier run ends before a later one begins
run_before : (xs : List ℕ) (j k : ℕ) → j < k → k < length xs → sum (take j xs) + get_or xs j 0 ≤ sum (take k xs)
run_before [] j k less lt = absurd (omega arith)
run_before (x ∷ xs) j zero less lt = absurd (omega arith)
run_before (x ∷ xs) zero (suc k) less lt = omega (arith, sum_by-cons (λ y. y) x (take k xs))
run_before (x ∷ xs) (suc j) (suc k) less lt = let r = run_before xs j k (omega arith) (omega arith) in omega (arith, sum_by-cons (λ y. y) x (take j xs), sum_by-cons (λ y. y) x (take k xs))

-- two runs that share a place are one
pub run_apart : (base : ℕ) (lengths : List ℕ) (j k place : ℕ) → InRun base lengths j place
    → InRun base lengths k place → j ≡ k
run_apart base lengths j k place a b =
    let x = a.there in
    let y = b.there in
    let p = a.after in
    let q = a.before in
    let r = b.after in
    let s = b.before in
    dite (dec_le k j)
    (λ le. dite (dec_le j k) (λ ge. omega arith) (λ less. let l : k < j = omega arith in let o = run_before lengths k j l x in absurd (omega arith)))
    (λ less. let l : j < k = omega arith in let o = run_before lengths j k l y in absurd (omega arith))

-- each place before the end lies in a run
pub find_run : (base : ℕ) (lengths : List ℕ) (place : ℕ) → base ≤ place → place < runs_end base lengths
    → (k : ℕ) × InRun base lengths k place
find_run base [] place from to = absurd (omega arith)
find_run base (x ∷ xs) place from to =
    dite (dec_le (base + x) place)
    (λ le. let r = find_run (base + x) xs place le (omega (arith, sum_by-cons (λ y. y) x xs)) in
    let here = r.1.there in
    let after = r.1.after in
    let before = r.1.before in
    (suc r.0, record { there = omega arith; after = omega (arith, sum_by-cons (λ y. y) x (take r.0 xs)); before = omega (arith, sum_by-cons (λ y. y) x (take r.0 xs)) }))
    (λ less. (zero, record { there = omega arith; after = omega arith; before = omega arith }))

-- if one list is a prefix of another, a run of both begins at the same place in both, and has the same length
pub starts_there : (xs ys : List ℕ) (k : ℕ) → IsPrefix xs ys → k ≤ length xs → sum (take k ys) ≡ sum (take k xs)
starts_there xs ys k p le = ap (λ l. sum (take k l)) (sym p.1) ∙ ap sum (take-append-le k xs p.0 le)

pub reads_there : (xs ys : List ℕ) (k : ℕ) → IsPrefix xs ys → k < length xs → get_or ys k 0 ≡ get_or xs k 0
reads_there xs ys k p lt = front_reads 0 ys xs p.0 (sym p.1) k lt

-- a run stays where it is when the list goes on
pub run_stays : (base : ℕ) (xs ys : List ℕ) (k place : ℕ) → IsPrefix xs ys → InRun base xs k place
    → InRun base ys k place
run_stays base xs ys k place p run =
    let long = prefix_length xs ys p in
    let there = run.there in
    let after = run.after in
    let before = run.before in
    let start = starts_there xs ys k p (omega arith) in
    let here = reads_there xs ys k p there in
    record { there = omega arith; after = omega arith; before = omega arith }

-- and it was there before, if its index was
pub run_was_there : (base : ℕ) (xs ys : List ℕ) (k place : ℕ) → IsPrefix xs ys → k < length xs
    → InRun base ys k place → InRun base xs k place
run_was_there base xs ys k place p there run =
    let after = run.after in
    let before = run.before in
    let start = starts_there xs ys k p (omega arith) in
    let here = reads_there xs ys k p there in
    record { there = there; after = omega arith; before = omega arith }

-- if each index is owned, the runs tile
pub all_tile : (base : ℕ) (lengths indices : List ℕ) → ((k : ℕ) → k < length lengths → Contains indices k)
    → Tiles base lengths indices
all_tile base lengths indices all =
    record {
      covers = λ place from to. let r = find_run base lengths place from to in (r.0, all r.0 r.1.there, r.1);
      within = λ k place run.
          let w = run_within lengths k run.there in
          let a = run.after in
          let b = run.before in
          (omega arith, omega arith);
      apart = run_apart base lengths;
    }
