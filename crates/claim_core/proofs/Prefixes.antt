-- Prefixes of one list, and their sums.
use Rattle.std.proofs.Common.{◌≡◌, ℕ, ◌≤◌, ◌⊎◌, Bool, true, false, nat_le, List, [], ◌∷◌, ◌++◌, length, refl, ap, sym, ◌∙◌, subst, inl, inr, ⊎_elim, arith, append_assoc, length-append}
use Rattle.std.specs.List.{All, sum}
use Rattle.std.proofs.lemmas.List.{append-nil}
use Rattle.std.proofs.lemmas.List.Sums.{sum_by-append}
use Rattle.std.proofs.lemmas.List.Prefix.{front_reads}
use Rattle.std.proofs.lemmas.Bool.Decides.{nat_tests}
use mathlib.Core.List.{IsPrefix}
use Rattle.claim_core.specs.SeatView.{longer}

-- each list is a prefix of itself
pub prefix_self : {A : Type 0} (xs : List A) → IsPrefix xs xs
prefix_self xs = ([], append-nil xs)

-- and of each list that goes on from it
pub prefix_append : {A : Type 0} (xs ys : List A) → IsPrefix xs (xs ++ ys)
prefix_append xs ys = (ys, refl)

pub prefix_nil : {A : Type 0} (xs : List A) → IsPrefix [] xs
prefix_nil xs = (xs, refl)

pub prefix_trans : {A : Type 0} (xs ys zs : List A) → IsPrefix xs ys → IsPrefix ys zs → IsPrefix xs zs
prefix_trans xs ys zs p q = (p.0 ++ q.0, sym (append_assoc xs p.0 q.0) ∙ (ap (λ w. w ++ q.0) p.1 ∙ q.1))

-- of two prefixes of one list the shorter is a prefix of the longer
pub prefix_shorter : {A : Type 0} (xs ys zs : List A) → IsPrefix xs zs → IsPrefix ys zs → length xs ≤ length ys
    → IsPrefix xs ys
prefix_shorter [] ys zs p q le = (ys, refl)
prefix_shorter (x ∷ xs) [] zs p q le = absurd (omega arith)
prefix_shorter (x ∷ xs) (y ∷ ys) [] p q le = absurd (cc (p.1))
prefix_shorter (x ∷ xs) (y ∷ ys) (z ∷ zs) p q le =
    let heads : x ≡ y = cc (p.1, q.1) in
    let rest = prefix_shorter xs ys zs (p.0, cc (p.1)) (q.0, cc (q.1)) (omega arith) in
    (rest.0, cc (heads, rest.1))

-- a prefix as long as the whole is the whole
pub prefix_whole : {A : Type 0} (xs ys : List A) → IsPrefix xs ys → length ys ≤ length xs → xs ≡ ys
prefix_whole [] [] p le = refl
prefix_whole [] (y ∷ ys) p le = absurd (omega arith)
prefix_whole (x ∷ xs) [] p le = absurd (cc (p.1))
prefix_whole (x ∷ xs) (y ∷ ys) p le = let rest = prefix_whole xs ys (p.0, cc (p.1)) (omega arith) in cc (p.1, rest)

pub prefix_length : {A : Type 0} (xs ys : List A) → IsPrefix xs ys → length xs ≤ length ys
prefix_length xs ys p = omega (arith, sym (ap length p.1) ∙ length-append xs p.0)

-- a prefix has no larger sum
pub prefix_sum : (xs ys : List ℕ) → IsPrefix xs ys → sum xs ≤ sum ys
prefix_sum xs ys p = omega (arith, sym (ap sum p.1) ∙ sum_by-append (λ x. x) xs p.0)

-- what holds of each member of a list holds of each member of a prefix
pub prefix_All : (P : ℕ → Type 0) (xs ys : List ℕ) → IsPrefix xs ys → All P ys → All P xs
prefix_All P xs ys p h k d lt =
    let longer : length xs ≤ length ys = prefix_length xs ys p in
    subst P (front_reads d ys xs p.0 (sym p.1) k lt) (h k d (omega arith))

pub longer_picks : {A : Type 0} (xs ys : List A) (b : Bool) → nat_le (length ys) (length xs) ≡ b
    → ((length ys ≤ length xs) × (longer xs ys ≡ xs)) ⊎ ((length xs ≤ length ys) × (longer xs ys ≡ ys))
longer_picks xs ys true is = inl (grind (arith, nat_tests), rw is refl)
longer_picks xs ys false is = inr (grind (arith, nat_tests), rw is refl)

-- where two lists are prefixes of one list, both are prefixes of the longer of them, which is a prefix of it
-- too
pub longer_begins : {A : Type 0} (xs ys zs : List A) → IsPrefix xs zs → IsPrefix ys zs
    → IsPrefix xs (longer xs ys) × IsPrefix ys (longer xs ys) × IsPrefix (longer xs ys) zs
longer_begins {A} xs ys zs p q =
    let F : List A → Type 0 = λ w. IsPrefix xs w × IsPrefix ys w × IsPrefix w zs in
    ⊎_elim
    (λ (c : (length ys ≤ length xs) × (longer xs ys ≡ xs)). subst F (sym c.1) (prefix_self xs, prefix_shorter ys xs zs q p c.0, p))
    (λ (c : (length xs ≤ length ys) × (longer xs ys ≡ ys)). subst F (sym c.1) (prefix_shorter xs ys zs p q c.0, prefix_self ys, q))
    (longer_picks xs ys (nat_le (length ys) (length xs)) refl)
