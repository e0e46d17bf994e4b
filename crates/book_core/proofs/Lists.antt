-- The member at a place of a list: as it is, as the list grows, and if a place is set.
use Rattle.std.proofs.Common.{◌≡◌, ◌≢◌, ℕ, ◌+◌, ◌<◌, ◌≤◌, List, [], ◌∷◌, ◌++◌, length, replicate, All, Some, slice_get, slice_set, zero, suc, refl, ap, subst, arith}
use Rattle.std.proofs.lemmas.List.Elements.{All-get_or}
use Rattle.std.proofs.lemmas.Option.{none-some, slice_get_within, get_or_from_slice_get}

-- what holds of each member holds of the one at a place
pub at_place : {X : Type 0} (P : X → Type 0) (xs : List X) (place : ℕ) (x : X) → All P xs → slice_get xs place ≡ Some x
    → P x
at_place P xs place x all is =
    subst P (get_or_from_slice_get xs place x x is) (All-get_or P xs place x (slice_get_within xs place x is) all)

-- what stands before an end stays where a list goes on
pub get_before : {X : Type 0} (front back : List X) (place : ℕ) (x : X) → slice_get front place ≡ Some x
    → slice_get (front ++ back) place ≡ Some x
get_before [] back place x is = absurd (none-some x is)
get_before (y ∷ front) back zero x is = is
get_before (y ∷ front) back (suc place) x is = get_before front back place x is

-- another place that is set
pub get_other : {X : Type 0} (xs : List X) (at place : ℕ) (new : X) → place ≢ at
    → slice_get (slice_set xs at new) place ≡ slice_get xs place
get_other [] at place new apart = refl
get_other (x ∷ xs) zero zero new apart = absurd (apart refl)
get_other (x ∷ xs) zero (suc place) new apart = refl
get_other (x ∷ xs) (suc at) zero new apart = refl
get_other (x ∷ xs) (suc at) (suc place) new apart = get_other xs at place new (λ same. apart (ap suc same))

-- the place that is set
pub get_set : {X : Type 0} (xs : List X) (at : ℕ) (old new : X) → slice_get xs at ≡ Some old
    → slice_get (slice_set xs at new) at ≡ Some new
get_set [] at old new is = absurd (none-some old is)
get_set (x ∷ xs) zero old new is = refl
get_set (x ∷ xs) (suc at) old new is = get_set xs at old new is

-- what was appended
pub get_appended : {X : Type 0} (front : List X) (n place : ℕ) (x : X) → length front ≤ place
    → place < length front + n → slice_get (front ++ replicate n x) place ≡ Some x
get_appended [] zero place x low high = absurd (omega arith)
get_appended [] (suc n) zero x low high = refl
get_appended [] (suc n) (suc place) x low high = get_appended [] n place x (omega arith) (omega arith)
get_appended (y ∷ front) n zero x low high = absurd (omega arith)
get_appended (y ∷ front) n (suc place) x low high = get_appended front n place x (omega arith) (omega arith)
