-- How often a number is in a list, and the sums of what all seats have.
use Rattle.std.proofs.Common.{◌≡◌, ℕ, zero, suc, ◌+◌, ◌<◌, ◌≤◌, List, [], ◌∷◌, ◌++◌, length, get_or, set, refl, ap, sym, arith}
use Rattle.std.specs.Prelude.{nat_eq, false}
use Rattle.std.specs.List.{Contains, AllByRecursion, IsDistinct}
use Rattle.std.proofs.lemmas.Map.Keys.{IsDistinct-cons}
use Rattle.std.proofs.lemmas.Bool.Decides.{nat_tests}
use mathlib.Core.Option.{some, some-injective, some-ne-none}
use mathlib.Core.Logic.{dite}
use native.Mathlib.Decide.{ℕ_discrete}
use lib.ListN.{get_elem?}
use Rattle.claim_core.specs.declared.seat_view.SeatView.{SeatView}
use Rattle.claim_core.specs.Lengths.{times, once_below}
use Rattle.claim_core.specs.Rule.{total}

pub times-append : (k : ℕ) (xs ys : List ℕ) → times k (xs ++ ys) ≡ times k xs + times k ys
times-append k [] ys = omega arith
times-append k (x ∷ xs) ys = let r = times-append k xs ys in omega arith

-- a number that is in a list is there at least once
times-at : (xs : List ℕ) (k i : ℕ) → i < length xs → get_or xs i k ≡ k → 0 < times k xs
times-at [] k i lt is = absurd (omega arith)
times-at (x ∷ xs) k zero lt is = grind (arith, nat_tests)
times-at (x ∷ xs) k (suc i) lt is = let r = times-at xs k i (omega arith) is in omega arith

pub times-from_Contains : (xs : List ℕ) (k : ℕ) → Contains xs k → 0 < times k xs
times-from_Contains xs k there = times-at xs k there.0 there.1 there.2

-- a number that is in a list at least once is in it
pub Contains-from_times : (xs : List ℕ) (k : ℕ) → 0 < times k xs → Contains xs k
Contains-from_times [] k more = absurd (omega arith)
Contains-from_times (x ∷ xs) k more =
    dite (ℕ_discrete x k)
    (λ same. (zero, omega arith, same))
    (λ other. let rest : 0 < times k xs = grind (arith, nat_tests) in let t = Contains-from_times xs k rest in (suc t.0, omega arith, t.2))

-- a list that has no number twice is distinct
absent_differs : (x : ℕ) (xs : List ℕ) → times x xs ≡ 0 → AllByRecursion (λ y. nat_eq x y ≡ false) xs
absent_differs x [] none = tt
absent_differs x (y ∷ ys) none = (grind (arith, nat_tests), absent_differs x ys (omega arith))

pub IsDistinct-from_times : (xs : List ℕ) → ((k : ℕ) → times k xs ≤ 1) → IsDistinct nat_eq xs
unfolding IsDistinct
IsDistinct-from_times [] once = tt
IsDistinct-from_times (x ∷ xs) once =
    let absent : times x xs ≡ 0 = let o = once x in grind (arith, nat_tests) in
    IsDistinct-cons nat_eq x xs (absent_differs x xs absent) (IsDistinct-from_times xs (λ k. let o = once k in omega arith))

-- the number n is counted once among the numbers below n + 1, and not before
pub once_more : (k n : ℕ) → once_below k (n + 1) ≡ times k (n ∷ []) + once_below k n
once_more k n = grind (arith, nat_tests)

-- the sum after a change of one member
pub total-set : (f : SeatView → ℕ) (vs : List SeatView) (i : ℕ) (v w : SeatView) → get_elem? vs i ≡ some v
    → total f (set vs i w) + f v ≡ total f vs + f w
total-set f [] i v w at = absurd (some-ne-none v (sym at))
total-set f (x ∷ xs) zero v w at = let same : f x ≡ f v = ap f (some-injective x v at) in omega arith
total-set f (x ∷ xs) (suc i) v w at = let r = total-set f xs i v w at in omega arith

pub total-snoc : (f : SeatView → ℕ) (vs : List SeatView) (w : SeatView) → total f (vs ++ w ∷ []) ≡ total f vs + f w
total-snoc f [] w = omega arith
total-snoc f (x ∷ xs) w = let r = total-snoc f xs w in omega arith

-- no member has more than all
pub member_le : (f : SeatView → ℕ) (vs : List SeatView) (i : ℕ) (v : SeatView) → get_elem? vs i ≡ some v
    → f v ≤ total f vs
member_le f [] i v at = absurd (some-ne-none v (sym at))
member_le f (x ∷ xs) zero v at = let same : f x ≡ f v = ap f (some-injective x v at) in omega arith
member_le f (x ∷ xs) (suc i) v at = let r = member_le f xs i v at in omega arith

-- a member whose f is 0 has a g of 0: where f adds up to 0, so does g
nobody : (f g : SeatView → ℕ) (vs : List SeatView) → total f vs ≡ 0
    → ((j : ℕ) (w : SeatView) → get_elem? vs j ≡ some w → f w ≡ 0 → g w ≡ 0) → total g vs ≡ 0
nobody f g [] all none = refl
nobody f g (x ∷ xs) all none =
    let here : g x ≡ 0 = none zero x refl (omega arith) in
    let rest : total g xs ≡ 0 = nobody f g xs (omega arith) (λ j w at. none (suc j) w at) in
    omega arith

-- a member whose f is 0 has a g of 0: where one member has all of f, it has all of g
pub alone : (f g : SeatView → ℕ) (vs : List SeatView) (i : ℕ) (v : SeatView) → get_elem? vs i ≡ some v
    → total f vs ≡ f v
    → ((j : ℕ) (w : SeatView) → get_elem? vs j ≡ some w → f w ≡ 0 → g w ≡ 0) → total g vs ≡ g v
alone f g [] i v at all none = absurd (some-ne-none v (sym at))
alone f g (x ∷ xs) zero v at all none =
    let same_f : f x ≡ f v = ap f (some-injective x v at) in
    let same_g : g x ≡ g v = ap g (some-injective x v at) in
    let rest : total g xs ≡ 0 = nobody f g xs (omega arith) (λ j w at. none (suc j) w at) in
    omega arith
alone f g (x ∷ xs) (suc i) v at all none =
    let part = member_le f xs i v at in
    let here : g x ≡ 0 = none zero x refl (omega arith) in
    let rest : total g xs ≡ g v = alone f g xs i v at (omega arith) (λ j w at. none (suc j) w at) in
    omega arith
