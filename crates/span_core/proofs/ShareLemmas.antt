-- Leaves that are shared out, and put in order again.
use Rattle.std.proofs.Common.{◌≡◌, ℕ, suc, ◌+◌, ◌*◌, List, [], ◌∷◌, ◌++◌, Some, length, subst, sym, ◌∙◌, ap, arith, length-append, slice_get, zero-mul, mul_comm}
use Rattle.std.proofs.Math.Nat.{mul-suc}
use Rattle.std.specs.List.{AllZip}
use Rattle.span_core.specs.Each.{EachFrom}
use Rattle.span_core.specs.Shares.{GivesLeaf, IsShare}
use Rattle.span_core.specs.Span.{Interval}
use Rattle.span_core.proofs.Each.{EachFrom-append, EachFrom-weaker}

-- a further round
rounds : (k workers : ℕ) → (1 + k) * workers ≡ workers + k * workers
rounds k workers = omega (arith, mul_comm (1 + k) workers, mul_comm k workers, mul-suc workers k, more k workers)
  where
    more : (k workers : ℕ) → workers * (1 + k) ≡ workers * suc k
    more k workers = let same : 1 + k ≡ suc k = omega arith in ap (λ n. workers * n) same

module _ {A : Type 0} (P : ℕ → A → Type 0) (count workers : ℕ) where
  -- it is one of the number that is next
  pub share-gives : (next : ℕ) (x : A) (xs : List A) → IsShare P count workers next (x ∷ xs) → P next x
  share-gives next x xs share = let same : next + 0 * workers ≡ next = omega (arith, zero-mul workers) in let M : ℕ → Type 0 = λ n. P n x in subst M same share.0.0

  -- what is left goes on after one round
  pub share-next : (next : ℕ) (x : A) (xs : List A) → IsShare P count workers next (x ∷ xs) → IsShare P count workers (next + workers) xs
  share-next next x xs share = (
    EachFrom-weaker (λ turn. P (next + turn * workers)) (λ turn. P (next + workers + turn * workers)) 1 0 xs
        (λ k y p.
        let same : next + (1 + k) * workers ≡ next + workers + (0 + k) * workers = omega (arith, rounds k workers, nought k) in
        let M : ℕ → Type 0 = λ n. P n y in subst M same p)
        share.0.1,
    omega (arith, share.1, rounds (length xs) workers, longer),
  )
    where
      nought : (k : ℕ) → (0 + k) * workers ≡ k * workers
      nought k = let same : 0 + k ≡ k = omega arith in ap (λ n. n * workers) same

      longer : length (x ∷ xs) * workers ≡ (1 + length xs) * workers
      longer = let same : length (x ∷ xs) ≡ 1 + length xs = omega arith in ap (λ n. n * workers) same

module _ {A V : Type 0} (items : V → List A) (P : ℕ → A → Type 0) (count workers : ℕ) where
  -- the first share gives its next item and goes to the end of the row
  pub shares-turn : (next : ℕ) (share left : V) (shares : List V) (x : A) → length (share ∷ shares) ≡ workers
      → items share ≡ x ∷ items left
      → EachFrom (λ worker s. IsShare P count workers worker (items s)) next (share ∷ shares)
      → EachFrom (λ worker s. IsShare P count workers worker (items s)) (next + 1) (shares ++ left ∷ [])
  shares-turn next share left shares x all taken row =
      let Q : List A → Type 0 = λ xs. IsShare P count workers next xs in
      let moved = share-next P count workers next x (items left) (subst Q taken row.0) in
      EachFrom-append (λ worker s. IsShare P count workers worker (items s)) (next + 1) (next + workers) shares (left ∷ []) (omega (arith, all)) row.1 (moved, tt)

  -- and the item is the one of the number that is next
  pub shares-give : (next : ℕ) (share left : V) (shares : List V) (x : A) → items share ≡ x ∷ items left
      → EachFrom (λ worker s. IsShare P count workers worker (items s)) next (share ∷ shares) → P next x
  shares-give next share left shares x taken row =
      let Q : List A → Type 0 = λ xs. IsShare P count workers next xs in
      share-gives P count workers next x (items left) (subst Q taken row.0)

module _ {A : Type 0} (gives : Interval → A → Type 0) (leaves : List Interval) where
  -- one result of each number of the leaves is one result for each leaf
  pub zip-given : (i : ℕ) (rest : List Interval) (answers : List A)
      → ((k : ℕ) → slice_get leaves (i + k) ≡ slice_get rest k) → length answers ≡ length rest
      → EachFrom (GivesLeaf gives leaves) i answers → AllZip gives rest answers
  zip-given i [] [] same long each = tt
  zip-given i [] (x ∷ xs) same long each = absurd (omega (arith, long))
  zip-given i (leaf ∷ rest) [] same long each = absurd (omega (arith, long))
  zip-given i (leaf ∷ rest) (x ∷ xs) same long each = (
    (
        let Q : Interval → Type 0 = λ l. gives l x in
        let at : slice_get leaves i ≡ Some leaf = here in
        let found : each.0.0 ≡ leaf = cc in
        subst Q found each.0.2
        ),
    zip-given (i + 1) rest xs (λ k. further k ∙ same (suc k)) (omega (arith, long)) each.1,
  )
    where
      here : slice_get leaves i ≡ Some leaf
      here = let e : i ≡ i + 0 = omega arith in ap (λ n. slice_get leaves n) e ∙ same 0

      further : (k : ℕ) → slice_get leaves (i + 1 + k) ≡ slice_get leaves (i + suc k)
      further k = let e : i + 1 + k ≡ i + suc k = omega arith in ap (λ n. slice_get leaves n) e

-- a share with an added result
pub share-grown : {A : Type 0} (P : ℕ → A → Type 0) (workers first next : ℕ) (xs ys : List A) (x : A)
    → ys ≡ xs ++ x ∷ [] → P next x
    → (next ≡ first + length xs * workers) × EachFrom (λ turn. P (first + turn * workers)) 0 xs
    → (next + workers ≡ first + length ys * workers) × EachFrom (λ turn. P (first + turn * workers)) 0 ys
share-grown {A} P workers first next xs ys x grown gives share =
    let Q : List A → Type 0 = λ zs. (next + workers ≡ first + length zs * workers) × EachFrom (λ turn. P (first + turn * workers)) 0 zs in
    let M : ℕ → Type 0 = λ n. P n x in
    subst Q (sym grown) (
      omega (arith, share.0, rounds (length xs) workers, longer),
      EachFrom-append (λ turn. P (first + turn * workers)) 0 (length xs) xs (x ∷ []) (omega arith) share.1 (subst M share.0 gives, tt),
    )
  where
    longer : length (xs ++ x ∷ []) * workers ≡ (1 + length xs) * workers
    longer = let same : length (xs ++ x ∷ []) ≡ 1 + length xs = omega (arith, length-append xs (x ∷ [])) in ap (λ n. n * workers) same

-- one step of putting the results in order
pub gather-step : {A V : Type 0} (items : V → List A) (P : ℕ → A → Type 0) (count workers next : ℕ) (olds rest news : List V) (share left : V) (x : A) (all more : List A)
    → olds ≡ share ∷ rest → items share ≡ x ∷ items left → news ≡ rest ++ left ∷ [] → more ≡ all ++ x ∷ []
    → EachFrom (λ worker s. IsShare P count workers worker (items s)) next olds × (length olds ≡ workers) × EachFrom P 0 all × (length all ≡ next)
    → EachFrom (λ worker s. IsShare P count workers worker (items s)) (next + 1) news × (length news ≡ workers) × EachFrom P 0 more × (length more ≡ next + 1)
gather-step {A} {V} items P count workers next olds rest news share left x all more front taken back longer kept =
    let R : List V → Type 0 = λ ss. EachFrom (λ worker s. IsShare P count workers worker (items s)) next ss in
    let S : List V → Type 0 = λ ss. EachFrom (λ worker s. IsShare P count workers worker (items s)) (next + 1) ss × (length ss ≡ workers) in
    let T : List A → Type 0 = λ xs. EachFrom P 0 xs × (length xs ≡ next + 1) in
    let row = subst R front kept.0 in
    let L : List V → Type 0 = λ ss. length ss ≡ workers in
    let long = subst L front kept.1 in
    let turned =
    subst S (sym back)
    (shares-turn items P count workers next share left rest x long taken row, omega (arith, long, length-append rest (left ∷ []))) in
    let added =
    subst T (sym longer) (
      EachFrom-append P 0 next all (x ∷ []) (omega (arith, kept.3)) kept.2 (shares-give items P count workers next share left rest x taken row, tt),
      omega (arith, kept.3, length-append all (x ∷ [])),
    ) in
    (turned.0, turned.1, added.0, added.1)
