-- Facts about each item of a list.
use Rattle.std.proofs.Common.{◌≡◌, ℕ, ◌+◌, suc, List, [], ◌∷◌, ◌++◌, length, map, drop, get_or, subst, sym, ap, arith, length-append}
use Rattle.std.proofs.lemmas.List.{drop_all, drop_more}
use Rattle.span_core.specs.Each.{EachFrom}

module _ {X : Type 0} (P : ℕ → X → Type 0) where
  -- what follows goes on with the index
  pub EachFrom-append : (first next : ℕ) (xs ys : List X) → first + length xs ≡ next → EachFrom P first xs
      → EachFrom P next ys → EachFrom P first (xs ++ ys)
  EachFrom-append first next [] ys meets p q = let same : next ≡ first = omega (arith, meets) in let M : ℕ → Type 0 = λ n. EachFrom P n ys in subst M same q
  EachFrom-append first next (x ∷ xs) ys meets p q = (p.0, EachFrom-append (first + 1) next xs ys (omega (arith, meets)) p.1 q)

  -- an added item
  pub EachFrom-push : (first next : ℕ) (xs ys : List X) (x : X) → ys ≡ xs ++ x ∷ [] → P next x
      → EachFrom P first xs × (first + length xs ≡ next) → EachFrom P first ys × (first + length ys ≡ next + 1)
  EachFrom-push first next xs ys x more p each =
      let Q : List X → Type 0 = λ zs. EachFrom P first zs × (first + length zs ≡ next + 1) in
      subst Q (sym more) (EachFrom-append first next xs (x ∷ []) each.1 each.0 (p, tt), omega (arith, each.1, length-append xs (x ∷ [])))

module _ {X : Type 0} where
  -- a different fact, at indices from a different one on
  pub EachFrom-weaker : (P Q : ℕ → X → Type 0) (i j : ℕ) (xs : List X) → ((k : ℕ) (x : X) → P (i + k) x → Q (j + k) x)
      → EachFrom P i xs → EachFrom Q j xs
  EachFrom-weaker P Q i j [] weaker p = tt
  EachFrom-weaker P Q i j (x ∷ xs) weaker p = (
    at_zero Q j x (weaker 0 x (from_zero P i x p.0)),
    EachFrom-weaker P Q (i + 1) (j + 1) xs (λ k y r. one_on Q j k y (weaker (suc k) y (one_back P i k y r))) p.1,
  )
    where
      at_zero : (R : ℕ → X → Type 0) (n : ℕ) (y : X) → R (n + 0) y → R n y
      at_zero R n y r = let same : n + 0 ≡ n = omega arith in let M : ℕ → Type 0 = λ m. R m y in subst M same r

      from_zero : (R : ℕ → X → Type 0) (n : ℕ) (y : X) → R n y → R (n + 0) y
      from_zero R n y r = let same : n ≡ n + 0 = omega arith in let M : ℕ → Type 0 = λ m. R m y in subst M same r

      one_on : (R : ℕ → X → Type 0) (n k : ℕ) (y : X) → R (n + suc k) y → R (n + 1 + k) y
      one_on R n k y r = let same : n + suc k ≡ n + 1 + k = omega arith in let M : ℕ → Type 0 = λ m. R m y in subst M same r

      one_back : (R : ℕ → X → Type 0) (n k : ℕ) (y : X) → R (n + 1 + k) y → R (n + suc k) y
      one_back R n k y r = let same : n + 1 + k ≡ n + suc k = omega arith in let M : ℕ → Type 0 = λ m. R m y in subst M same r

module _ {X Y : Type 0} (v : X → Y) (none : X) (xs : List X) where
  -- one result for each item from this index on, and it is what v makes of the item
  pub EachFrom-map : (i : ℕ) (ys : List Y) → EachFrom (λ k y. y ≡ v (get_or xs k none)) i ys → i + length ys ≡ length xs
      → ys ≡ map v (drop i xs)
  EachFrom-map i [] each long = let end = drop_all i xs (omega (arith, long)) in ap (map v) (sym end)
  EachFrom-map i (y ∷ ys) each long =
      let first = each.0 in
      let rest = EachFrom-map (i + 1) ys each.1 (omega (arith, long)) in
      let more = ap (map v) (drop_more xs i none (omega (arith, long))) in
      cc
