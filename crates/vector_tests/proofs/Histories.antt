-- What the history of an opened vector begins with.
use Rattle.std.proofs.Common.{◌≡◌, ℕ, List, [], ◌∷◌, length, Option, Some, None, slice_get, sym, ap, ◌∙◌, arith}
use Rattle.std.proofs.lemmas.List.FromFn.{length-map-range_with_len}
use Rattle.std.proofs.lemmas.Option.{same_Some}
use Rattle.claim_core.specs.History.{first_cell, first_list, value_cell, broken_cell}
use Rattle.grow_core.specs.Vector.{VectorView, BeginsAsOpened}
use Rattle.vector_tests.specs.Histories.{BeginsWithOneOfThree}

-- a list of three by its members
three_are : {X : Type 0} (xs : List X) (a b c : X) → length xs ≡ 3 → slice_get xs 0 ≡ Some a → slice_get xs 1 ≡ Some b → slice_get xs 2 ≡ Some c
    → xs ≡ a ∷ b ∷ c ∷ []
three_are [] a b c long x y z = absurd (omega arith)
three_are (p ∷ []) a b c long x y z = absurd (omega arith)
three_are (p ∷ q ∷ []) a b c long x y z = absurd (omega arith)
three_are (p ∷ q ∷ r ∷ []) a b c long x y z = cc (same_Some p a x, same_Some q b y, same_Some r c z)
three_are (p ∷ q ∷ r ∷ s ∷ more) a b c long x y z = absurd (omega arith)

-- a vector that was opened on a value and two broken members begins its history with these
pub begins_with_one : (vector : VectorView ℕ) (value : ℕ) → vector.opened ≡ Some value ∷ None ∷ None ∷ [] → length vector.opened ≡ vector.word.base
    → BeginsAsOpened vector → BeginsWithOneOfThree vector.word
begins_with_one vector value are long begins =
    let word = vector.word in
    let cells : length (first_list word.limit word.base word.filled).cells ≡ word.base = length-map-range_with_len (first_cell word.filled) 0 word.base in
    let three : length vector.opened ≡ 3 = ap length are in
    three_are (first_list word.limit word.base word.filled).cells (value_cell 0) broken_cell broken_cell (cells ∙ (sym long ∙ three))
    (begins.values 0 value (ap (λ (l : List (Option ℕ)). slice_get l 0) are))
    (begins.broken 1 (ap (λ (l : List (Option ℕ)). slice_get l 1) are))
    (begins.broken 2 (ap (λ (l : List (Option ℕ)). slice_get l 2) are))
