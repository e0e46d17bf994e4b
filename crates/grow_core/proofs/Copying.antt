-- Parts of a list that is copied from a number on, and of cells that get its elements.
use Rattle.std.proofs.Common.{◌≡◌, ℕ, zero, suc, ◌+◌, ◌≤◌, List, [], ◌∷◌, ◌++◌, length, take, drop, Some, refl, sym, ap, ◌∙◌, subst, arith}
use Rattle.std.specs.Prelude.{slice_get}
use Rattle.std.proofs.Math.Seq.{take-add}
use Rattle.std.proofs.lemmas.List.{drop-drop, length-drop, length-take-le}
use Rattle.cell_core.specs.Member.{MemberView}
use Rattle.cell_core.specs.Run.{cells_from, members_of}
use Rattle.cell_core.specs.Slot.{Names, cell_in}
use Rattle.grow_core.specs.Stretch.{values_from}
use Rattle.grow_core.proofs.Stretches.{cells_length, take_next}

-- an element after the first ones
slice_get-drop : {X : Type 0} (xs : List X) (first i : ℕ) (x : X) → slice_get xs (first + i) ≡ Some x → slice_get (drop first xs) i ≡ Some x
slice_get-drop xs zero i x h = let e : zero + i ≡ i = omega arith in subst (λ (k : ℕ). slice_get xs k ≡ Some x) e h
slice_get-drop [] (suc first) i x h = absurd (cc)
slice_get-drop (y ∷ ys) (suc first) i x h =
    let e : suc first + i ≡ suc (first + i) = omega arith in
    slice_get-drop ys first i x (subst (λ (k : ℕ). slice_get (y ∷ ys) k ≡ Some x) e h)

-- one more of the values
pub values_from_next : {X : Type 0} (xs : List X) (first i : ℕ) (x : X) → slice_get xs (first + i) ≡ Some x
    → values_from xs first (i + 1) ≡ values_from xs first i ++ x ∷ []
values_from_next xs first i x h = take_next (drop first xs) i x (slice_get-drop xs first i x h)

-- there are n of them
pub length-values_from : {X : Type 0} (xs : List X) (first n : ℕ) → first + n ≤ length xs → length (values_from xs first n) ≡ n
length-values_from xs first n within = length-take-le n (drop first xs) (omega (arith, length-drop first xs, within))

-- some of the values, and those after them
values_from_both : {X : Type 0} (xs : List X) (first m n : ℕ) → values_from xs first (m + n) ≡ values_from xs first m ++ values_from xs (first + m) n
values_from_both xs first m n = take-add m n (drop first xs) ∙ ap (λ ys. take m (drop first xs) ++ take n ys) (drop-drop m first xs)

-- some cells, and those after them
cells_from_both : (m n i : ℕ) (γs : List Names) → cells_from (m + n) i γs ≡ cells_from m i γs ++ cells_from n (i + m) γs
cells_from_both zero n i γs =
    let none : zero + n ≡ n = omega arith in let here : i ≡ i + zero = omega arith in
    ap (λ (k : ℕ). cells_from k i γs) none ∙ ap (λ (k : ℕ). cells_from n k γs) here
cells_from_both (suc m) n i γs =
    let one_more : suc m + n ≡ suc (m + n) = omega arith in let next : suc i + m ≡ i + suc m = omega arith in
    ap (λ (k : ℕ). cells_from k i γs) one_more
    ∙ (ap (λ (δs : List Names). cell_in γs i ∷ δs) (cells_from_both m n (suc i) γs)
    ∙ ap (λ (k : ℕ). (cell_in γs i ∷ cells_from m (suc i) γs) ++ cells_from n k γs) next)

members_of_both : {X : Type 0} (γs δs : List Names) (xs ys : List X) → length γs ≡ length xs
    → members_of (γs ++ δs) (xs ++ ys) ≡ members_of γs xs ++ members_of δs ys
members_of_both [] δs [] ys same = refl
members_of_both [] δs (x ∷ xs) ys same = absurd (omega (arith, same))
members_of_both (γ ∷ γs) δs [] ys same = absurd (omega (arith, same))
members_of_both {X} (γ ∷ γs) δs (x ∷ xs) ys same =
    ap (λ (ms : List (MemberView X)). record { value = Some x; name = γ.value_name; epoch = [] } ∷ ms) (members_of_both γs δs xs ys (omega (arith, same)))

-- what is known of cells that hold some of the values, and of those after them
pub copied_both : {X : Type 0} (xs : List X) (first m n all i next : ℕ) (γs : List Names) → m + n ≡ all → i + m ≡ next → first + all ≤ length xs
    → members_of (cells_from all i γs) (values_from xs first all)
    ≡ members_of (cells_from m i γs) (values_from xs first m) ++ members_of (cells_from n next γs) (values_from xs (first + m) n)
copied_both {X} xs first m n all i next γs sum at within =
    let few : first + m ≤ length xs = omega (arith, sum, within) in
    let same : length (cells_from m i γs) ≡ length (values_from xs first m) = cells_length m i γs ∙ sym (length-values_from xs first m few) in
    ap (λ (k : ℕ). members_of (cells_from k i γs) (values_from xs first k)) (sym sum)
    ∙ (ap (λ (δs : List Names). members_of δs (values_from xs first (m + n))) (cells_from_both m n i γs)
    ∙ (ap (λ (ys : List X). members_of (cells_from m i γs ++ cells_from n (i + m) γs) ys) (values_from_both xs first m n)
    ∙ (members_of_both (cells_from m i γs) (cells_from n (i + m) γs) (values_from xs first m) (values_from xs (first + m) n) same
    ∙ ap (λ (k : ℕ). members_of (cells_from m i γs) (values_from xs first m) ++ members_of (cells_from n k γs) (values_from xs (first + m) n)) at)))
