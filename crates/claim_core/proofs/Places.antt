-- How many places runs have together.
use Rattle.std.proofs.Common.{◌≡◌, ℕ, zero, suc, ◌+◌, ◌*◌, ◌<◌, ◌≤◌, List, [], ◌∷◌, length, get_or, take, refl, ap, ◌∙◌, arith}
use Rattle.std.specs.List.{Contains, sum, sum_by}
use Rattle.std.proofs.Math.Seq.{take-length}
use Rattle.std.proofs.lemmas.List.Sums.{sum_by-cons, sum_by_more}
use Rattle.std.proofs.lemmas.Bool.Decides.{nat_tests}
use mathlib.Core.List.{IsPrefix}
use mathlib.Core.Logic.{dite}
use native.Mathlib.Decide.{ℕ_discrete}
use Rattle.claim_core.specs.Lengths.{times, once_below, places_in}
use Rattle.claim_core.proofs.Tiles.{reads_there}

-- the values of the numbers below n, each as often as the number is in the list
abbrev weigh : (ℕ → ℕ) → ℕ → List ℕ → ℕ
weigh f zero ks = 0
weigh f (suc n) ks = weigh f n ks + times n ks * f n

weigh-nil : (f : ℕ → ℕ) (n : ℕ) → weigh f n [] ≡ 0
weigh-nil f zero = refl
weigh-nil f (suc n) = let r = weigh-nil f n in omega arith

weigh-above : (f : ℕ → ℕ) (n x : ℕ) (ks : List ℕ) → n ≤ x → weigh f n (x ∷ ks) ≡ weigh f n ks
weigh-above f zero x ks le = refl
weigh-above f (suc n) x ks le =
    let r = weigh-above f n x ks (omega arith) in
    let same : times n (x ∷ ks) ≡ times n ks = grind (arith, nat_tests) in
    let e : times n (x ∷ ks) * f n ≡ times n ks * f n = ap (λ t. t * f n) same in
    omega arith

weigh-below : (f : ℕ → ℕ) (n x : ℕ) (ks : List ℕ) → x < n → weigh f n (x ∷ ks) ≡ f x + weigh f n ks
weigh-below f zero x ks lt = absurd (omega arith)
weigh-below f (suc n) x ks lt =
    dite (ℕ_discrete x n)
    (λ same.
    let r = weigh-above f n x ks (omega arith) in
    let one : times n (x ∷ ks) ≡ 1 + times n ks = grind (arith, nat_tests) in
    let e : times n (x ∷ ks) * f n ≡ (1 + times n ks) * f n = ap (λ t. t * f n) one in
    let g : f x ≡ f n = ap f same in
    omega arith)
    (λ other.
    let r = weigh-below f n x ks (omega arith) in
    let none : times n (x ∷ ks) ≡ times n ks = grind (arith, nat_tests) in
    let e : times n (x ∷ ks) * f n ≡ times n ks * f n = ap (λ t. t * f n) none in
    omega arith)

-- a sum over a list of numbers below n, number by number
sum_by-weigh : (f : ℕ → ℕ) (n : ℕ) (ks : List ℕ) → ((k : ℕ) → n ≤ k → times k ks ≡ 0) → sum_by f ks ≡ weigh f n ks
sum_by-weigh f n [] none = let w = weigh-nil f n in omega arith
sum_by-weigh f n (x ∷ ks) none =
    let lt : x < n = let o = none x in grind (arith, nat_tests) in
    let r = sum_by-weigh f n ks (λ k le. let o = none k le in omega arith) in
    let w = weigh-below f n x ks lt in
    omega (arith, sum_by-cons f x ks)

weigh-once : (xs ks : List ℕ) (n : ℕ) → n ≤ length xs → ((k : ℕ) → k < n → times k ks ≡ 1)
    → weigh (λ k. get_or xs k 0) n ks ≡ sum (take n xs)
weigh-once xs ks zero le once = refl
weigh-once xs ks (suc n) le once =
    let r = weigh-once xs ks n (omega arith) (λ k lt. once k (omega arith)) in
    let one : times n ks * get_or xs n 0 ≡ 1 * get_or xs n 0 = ap (λ t. t * get_or xs n 0) (once n (omega arith)) in
    let next : sum (take (suc n) xs) ≡ sum (take (n + 1) xs) = let step : suc n ≡ n + 1 = omega arith in ap (λ i. sum (take i xs)) step in
    omega (arith, sum_by_more (λ x. x) xs n 0 (omega arith))

at_most_once : (t x : ℕ) → t ≤ 1 → t * x ≤ x
at_most_once zero x le = omega arith
at_most_once (suc zero) x le = omega arith
at_most_once (suc (suc t)) x le = absurd (omega arith)

weigh-le : (xs ks : List ℕ) (n : ℕ) → n ≤ length xs → ((k : ℕ) → times k ks ≤ 1)
    → weigh (λ k. get_or xs k 0) n ks ≤ sum (take n xs)
weigh-le xs ks zero le once = omega arith
weigh-le xs ks (suc n) le once =
    let r = weigh-le xs ks n (omega arith) once in
    let most : times n ks * get_or xs n 0 ≤ get_or xs n 0 = at_most_once (times n ks) (get_or xs n 0) (once n) in
    let next : sum (take (suc n) xs) ≡ sum (take (n + 1) xs) = let step : suc n ≡ n + 1 = omega arith in ap (λ i. sum (take i xs)) step in
    omega (arith, sum_by_more (λ x. x) xs n 0 (omega arith))

-- some runs, each once at most, have no more places than that
pub places_in-le : (xs ks : List ℕ) → ((k : ℕ) → times k ks ≤ once_below k (length xs)) → places_in xs ks ≤ sum xs
places_in-le xs ks part =
    let same = sum_by-weigh (λ k. get_or xs k 0) (length xs) ks (λ k le. let p = part k in omega arith) in
    let most = weigh-le xs ks (length xs) (omega arith) (λ k. let p = part k in omega arith) in
    let all = ap sum (take-length xs) in
    omega arith

-- all runs, each once, have the sum of the lengths as their number of places
pub places_in-all : (xs ks : List ℕ) → ((k : ℕ) → times k ks ≡ once_below k (length xs)) → places_in xs ks ≡ sum xs
places_in-all xs ks all =
    sum_by-weigh (λ k. get_or xs k 0) (length xs) ks (λ k le. let a = all k in omega arith)
    ∙ (weigh-once xs ks (length xs) (omega arith) (λ k lt. let a = all k in omega arith) ∙ ap sum (take-length xs))

-- runs keep their number of places when the list grows
pub places_stay : (xs ys ks : List ℕ) → IsPrefix xs ys → ((k : ℕ) → Contains ks k → k < length xs)
    → places_in ys ks ≡ places_in xs ks
places_stay xs ys [] p below = refl
places_stay xs ys (k ∷ ks) p below =
    let here = reads_there xs ys k p (below k (zero, omega arith, refl)) in
    let rest = places_stay xs ys ks p (λ j there. below j (suc there.0, omega arith, there.2)) in
    omega (arith, sum_by-cons (λ j. get_or ys j 0) k ks, sum_by-cons (λ j. get_or xs j 0) k ks)
