-- Cells with seats in a row have the mould of the row, and cells of such a mould have seats in a row.
use Rattle.std.proofs.Common.{◌≡◌, ℕ, zero, suc, ◌+◌, ◌-◌, ◌<◌, ◌≤◌, List, [], ◌∷◌, length, refl, sym, ap, ◌∙◌, subst, arith}
use Rattle.std.specs.Prelude.{Option, Some, None}
use Rattle.tie_core.specs.Tie.{Tie, row_of, tie_further, tie_numbered}
use Rattle.tie_core.specs.Run.{run_of}
use Rattle.cell_core.specs.Slot.{Names, AreTied, cell_in}
use Rattle.cell_core.specs.Run.{AreTiedTo, cells_from}
use Rattle.cell_core.specs.Mould.{id_of, relative, relatives, first_seat, mould_of, row_mould, last_seat}

-- cells with seats in a row from number k + j on have numbers from j on, relative to k
row_relative : (t : Tie) (k j n : ℕ) (γs : List Names) → AreTied (row_of (tie_numbered t (k + j)) n) γs → relatives k γs ≡ row_of (tie_numbered t j) n
row_relative t k j zero [] at = refl
row_relative t k j zero (γ ∷ γs) at = absurd at
row_relative t k j (suc n) [] at = absurd at
row_relative t k j (suc n) (γ ∷ γs) at =
    let one : (k + j) - k ≡ j = omega arith in
    let here : relative k γ.tied ≡ Some (tie_numbered t j) = ap (relative k) at.0 ∙ ap (λ (i : ℕ). Some (tie_numbered t i)) one in
    let next : (k + j) + 1 ≡ k + (j + 1) = omega arith in
    let others : AreTied (row_of (tie_numbered t (k + (j + 1))) n) γs = subst (λ (m : ℕ). AreTied (row_of (tie_numbered t m) n) γs) next at.1 in
    λ i. here i ∷ row_relative t k (j + 1) n γs others i

-- cells with seats in a row have the row's mould
pub mould_row : (t : Tie) (n : ℕ) (γs : List Names) → AreTied (row_of t n) γs → mould_of γs ≡ row_mould t n
mould_row t zero [] at = refl
mould_row t zero (γ ∷ γs) at = absurd at
mould_row t (suc n) [] at = absurd at
mould_row t (suc n) (γ ∷ γs) at =
    let same : t.id ≡ t.id + 0 = omega arith in
    let from_0 : AreTied (row_of (tie_numbered t (t.id + 0)) (suc n)) (γ ∷ γs) = subst (λ (m : ℕ). AreTied (row_of (tie_numbered t m) (suc n)) (γ ∷ γs)) same at in
    subst (λ (k : ℕ). relatives k (γ ∷ γs) ≡ row_mould t (suc n)) (sym (ap id_of at.0)) (row_relative t t.id 0 (suc n) (γ ∷ γs) from_0)

abbrev head_or : Option Tie → List (Option Tie) → Option Tie
head_or d [] = d
head_or d (τ ∷ τs) = τ

abbrev rest : List (Option Tie) → List (Option Tie)
rest [] = []
rest (τ ∷ τs) = τs

abbrev tie_or : Tie → Option Tie → Tie
tie_or d None = d
tie_or d (Some t) = t

-- a tie that is known relative to k is known, if its relative number is not 0
tied_from : (t : Tie) (k j : ℕ) → 0 < j → (τ : Option Tie) → relative k τ ≡ Some (tie_numbered t j) → τ ≡ Some (tie_numbered t (k + j))
tied_from t k j more None e = absurd (let z = e in cc)
tied_from t k j more (Some u) e =
    let same : record u { id = u.id - k } ≡ tie_numbered t j = ap (tie_or t) e in let number : u.id - k ≡ j = ap (λ (s : Tie). s.id) same in
    let whole : u.id ≡ k + j = omega (arith, number) in
    λ i. Some (record { views = (same i).views; id = whole i; floor = (same i).floor; idle = (same i).idle; begun = (same i).begun; mending = (same i).mending; filled = (same i).filled; broken = (same i).broken; fixed = (same i).fixed })

-- the same of cells in a row
relative_row : (t : Tie) (k j n : ℕ) → 0 < j → (γs : List Names) → relatives k γs ≡ row_of (tie_numbered t j) n → AreTied (row_of (tie_numbered t (k + j)) n) γs
relative_row t k j zero more [] e = tt
relative_row t k j zero more (γ ∷ γs) e = absurd (let z : suc (length (relatives k γs)) ≡ 0 = ap length e in omega (arith, z))
relative_row t k j (suc n) more [] e = absurd (let z : 0 ≡ suc (length (row_of (tie_numbered t (j + 1)) n)) = ap length e in omega (arith, z))
relative_row t k j (suc n) more (γ ∷ γs) e =
    let next : k + (j + 1) ≡ (k + j) + 1 = omega arith in
    (tied_from t k j more γ.tied (ap (head_or None) e), subst (λ (m : ℕ). AreTied (row_of (tie_numbered t m) n) γs) next (relative_row t k (j + 1) n (omega (arith, more)) γs (ap rest e)))

-- the first cell's tie
first_tied : (t : Tie) (τ : Option Tie) → relative (id_of τ) τ ≡ Some (tie_numbered t 0) → τ ≡ Some (tie_numbered t (id_of τ))
first_tied t None e = absurd (let z = e in cc)
first_tied t (Some u) e = let same : record u { id = u.id - u.id } ≡ tie_numbered t 0 = ap (tie_or t) e in
    λ i. Some (record { views = (same i).views; id = u.id; floor = (same i).floor; idle = (same i).idle; begun = (same i).begun; mending = (same i).mending; filled = (same i).filled; broken = (same i).broken; fixed = (same i).fixed })

-- cells of the mould of a row have seats in a row, from the first one's number on
pub row_mould_tied : (t : Tie) (n : ℕ) (γs : List Names) → mould_of γs ≡ row_mould t n → AreTied (row_of (tie_numbered t (first_seat γs)) n) γs
row_mould_tied t zero [] e = tt
row_mould_tied t zero (γ ∷ γs) e = absurd (let z : suc (length (relatives (first_seat (γ ∷ γs)) γs)) ≡ 0 = ap length e in omega (arith, z))
row_mould_tied t (suc n) [] e = absurd (let z : 0 ≡ suc (length (row_of (tie_numbered t 1) n)) = ap length e in omega (arith, z))
row_mould_tied t (suc n) (γ ∷ γs) e =
    (first_tied t γ.tied (ap (head_or None) e), relative_row t (id_of γ.tied) 1 n (omega arith) γs (ap rest e))

-- the tie of one cell of a row
pub row_tied : (t : Tie) (n : ℕ) (γs : List Names) → AreTied (row_of t n) γs → (i : ℕ) → i < n → (cell_in γs i).tied ≡ Some (tie_further t i)
row_tied t zero γs at i less = absurd (omega arith)
row_tied t (suc n) [] at i less = absurd at
row_tied t (suc n) (γ ∷ γs) at zero less = let same : t.id ≡ t.id + 0 = omega arith in at.0 ∙ ap (λ (k : ℕ). Some (tie_numbered t k)) same
row_tied t (suc n) (γ ∷ γs) at (suc i) less = let e : (t.id + 1) + i ≡ t.id + suc i = omega arith in
    row_tied (tie_further t 1) n γs at.1 i (omega (arith, less)) ∙ ap (λ (k : ℕ). Some (tie_numbered t k)) e

-- the same of neighbours
pub row_run : (t : Tie) (m : ℕ) (γs : List Names) → AreTied (row_of t m) γs → (i n : ℕ) → i + n ≤ m → AreTiedTo (run_of (tie_further t i) n) (cells_from n i γs)
row_run t m γs at i zero near = tt
row_run t m γs at i (suc n) near = let e : t.id + suc i ≡ (t.id + i) + 1 = omega arith in
    (row_tied t m γs at i (omega (arith, near)), subst (λ (k : ℕ). AreTiedTo (run_of (tie_numbered t k) n) (cells_from n (suc i) γs)) e (row_run t m γs at (suc i) n (omega (arith, near))))

-- a row of seats has a cell for each
row_long : (t : Tie) (n : ℕ) (γs : List Names) → AreTied (row_of t n) γs → length γs ≡ n
row_long t zero [] at = refl
row_long t zero (γ ∷ γs) at = absurd at
row_long t (suc n) [] at = absurd at
row_long t (suc n) (γ ∷ γs) at = ap suc (row_long (tie_further t 1) n γs at.1)

-- the seat behind a row of seats
pub row_seat : (t : Tie) (n : ℕ) (γs : List Names) → AreTied (row_of t n) γs → 0 < n → last_seat γs ≡ t.id + n
row_seat t zero γs at some = absurd (omega (arith, some))
row_seat t (suc n) [] at some = absurd at
row_seat t (suc n) (γ ∷ γs) at some =
    let first : id_of γ.tied ≡ t.id = ap id_of at.0 in let long : length (γ ∷ γs) ≡ suc n = row_long t (suc n) (γ ∷ γs) at in
    λ i. first i + long i
