-- Words in parts of the same length.
use Rattle.std.proofs.Common.{zero, suc, ◌≡◌, ◌+◌, ◌*◌, ◌/◌, ◌<◌, ◌≤◌, ◌++◌, ℕ, List, length, Some, take, drop, refl, sym, ap, subst, ◌∙◌, suc-mul, zero-mul, arith}
use Rattle.std.specs.Prelude.{slice_get}
use Rattle.std.specs.Simd.{first_chunks}
use Rattle.std.proofs.lemmas.List.{append_assoc, drop-drop, drop-take, drop_at, length-append, length-take-le, take-append-le, take-take, take_at}
use Rattle.std.proofs.lemmas.Option.{slice_get_within}
use Rattle.std.proofs.lemmas.Nat.{div-mul-add, row_fits}
use borrow.Author.Count.{below_more}
use Rattle.handle_core.specs.Calls.{elements_in}

-- there are as many parts as were asked for
pub first_chunks-length : {X : Type 0} (w n : ℕ) (xs : List X) → length (first_chunks w n xs) ≡ n
first_chunks-length w zero xs = refl
first_chunks-length w (suc n) xs = ap (λ k. suc k) (first_chunks-length w n (drop w xs))

-- a part begins after those before it
pub first_chunks-at : {X : Type 0} (w n i : ℕ) (xs : List X) → i < n
    → slice_get (first_chunks w n xs) i ≡ Some (take w (drop (i * w) xs))
first_chunks-at w zero i xs below = absurd (omega arith)
first_chunks-at w (suc n) zero xs below = ap (λ k. Some (take w (drop k xs))) (sym (zero-mul w))
first_chunks-at w (suc n) (suc i) xs below =
    let more = suc-mul i w in let next : w + i * w ≡ suc i * w = omega arith in
    first_chunks-at w n i (drop w xs) (omega arith)
    ∙ ap (λ ys. Some (take w ys)) (drop-drop (i * w) w xs ∙ ap (λ k. drop k xs) next)

-- the elements that words make are as many as fit
pub elements_length : (w : ℕ) (words : List ℕ) → length (elements_in w words) ≡ length words / w
elements_length w words = first_chunks-length w (length words / w) words

-- words that were written into a list: those before them stay
pub written-before : {X : Type 0} (v w rest : List X) (from k n : ℕ) → k + n ≤ from → from ≤ length v
    → take n (drop k ((take from v ++ w) ++ rest)) ≡ take n (drop k v)
written-before v w rest from k n before within =
    let long : length (take from v) ≡ from = length-take-le from v within in
    let all : length (take from v ++ w) ≡ length (take from v) + length w = length-append (take from v) w in
    sym (drop-take k n ((take from v ++ w) ++ rest))
    ∙ ap (λ ys. drop k ys)
    (take-append-le (k + n) (take from v ++ w) rest (omega arith)
    ∙ take-append-le (k + n) (take from v) w (omega arith)
    ∙ take-take (k + n) from v before)
    ∙ drop-take k n v

-- and they are where they were written
pub written-here : {X : Type 0} (v w rest : List X) (from n : ℕ) → length w ≡ n → from ≤ length v
    → take n (drop from ((take from v ++ w) ++ rest)) ≡ w
written-here v w rest from n long within =
    ap (λ ys. take n (drop from ys)) (append_assoc (take from v) w rest)
    ∙ ap (λ ys. take n ys) (drop_at (take from v) (w ++ rest) from (length-take-le from v within))
    ∙ take_at w rest n long

-- the element that words make with this number
pub elements_at : (w i : ℕ) (words x : List ℕ) → slice_get (elements_in w words) i ≡ Some x → x ≡ take w (drop (i * w) words)
elements_at w i words x at =
    let within : i < length (elements_in w words) = slice_get_within (elements_in w words) i x at in
    let same : Some x ≡ Some (take w (drop (i * w) words)) =
    sym at ∙ first_chunks-at w (length words / w) i words (subst (λ n. i < n) (elements_length w words) within) in
    cc

-- words that were written as the next part of a list: each part so far is there, and the new one
pub written_parts : {X : Type 0} (P : ℕ → List X → Type 0) (v w rest new : List X) (width i : ℕ) → length w ≡ width
    → i * width + width ≤ length v → new ≡ (take (i * width) v ++ w) ++ rest
    → ((j : ℕ) → j < i → P j (take width (drop (j * width) v))) → P i w
    → (j : ℕ) → j < i + 1 → P j (take width (drop (j * width) new))
written_parts P v w rest new width i long fits is before now =
    let here : take width (drop (i * width) new) ≡ w =
    ap (λ ys. take width (drop (i * width) ys)) is ∙ written-here v w rest (i * width) width long (omega arith) in
    below_more (λ j. P j (take width (drop (j * width) new))) i
    (λ j below.
    let fits_before = row_fits j width i width below (omega arith) in
    let same : take width (drop (j * width) new) ≡ take width (drop (j * width) v) =
    ap (λ ys. take width (drop (j * width) ys)) is
    ∙ written-before v w rest (i * width) (j * width) width (omega (arith, fits_before)) (omega arith) in
    subst (P j) (sym same) (before j below))
    (subst (P i) (sym here) now)

-- a list of n parts has n of them
pub parts_count : (n w length : ℕ) → 0 < w → length ≡ n * w → length / w ≡ n
parts_count n w length some is =
    let padded : length ≡ n * w + 0 = omega (arith, is) in
    ap (λ k. k / w) padded ∙ div-mul-add n w 0 some
