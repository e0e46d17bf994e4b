-- Lists that are made of a range of places, when one of their cells or their length changes.
use Rattle.std.proofs.Common.{◌≡◌, ◌≢◌, ℕ, ◌+◌, ◌-◌, ◌<◌, ◌≤◌, ◌∷◌, ◌++◌, map, replicate, Some, slice_get, slice_set, zero, suc, refl, ap, sym, ◌∙◌, arith}
use Rattle.std.specs.List.{range_with_len}

-- two functions that are the same at each place of a range
pub map_same : {X : Type 0} (f g : ℕ → X) (a n : ℕ) → ((p : ℕ) → a ≤ p → p < a + n → f p ≡ g p)
    → map f (range_with_len a n) ≡ map g (range_with_len a n)
map_same f g a zero same = refl
map_same f g a (suc n) same =
    ap (λ x. x ∷ map f (range_with_len (a + 1) n)) (same a (omega arith) (omega arith))
    ∙ ap (λ xs. g a ∷ xs) (map_same f g (a + 1) n (λ p low high. same p (omega arith) (omega arith)))

-- a longer range in two parts
pub map_more : {X : Type 0} (f : ℕ → X) (a n k : ℕ)
    → map f (range_with_len a (n + k)) ≡ map f (range_with_len a n) ++ map f (range_with_len (a + n) k)
map_more f a zero k =
    let none : zero + k ≡ k = omega arith in
    let here : a ≡ a + zero = omega arith in
    ap (λ j. map f (range_with_len a j)) none ∙ ap (λ b. map f (range_with_len b k)) here
map_more f a (suc n) k =
    let one_more : suc n + k ≡ suc (n + k) = omega arith in
    let behind : a + 1 + n ≡ a + suc n = omega arith in
    ap (λ j. map f (range_with_len a j)) one_more
    ∙ ap (λ xs. f a ∷ xs) (map_more f (a + 1) n k ∙ ap (λ b. map f (range_with_len (a + 1) n) ++ map f (range_with_len b k)) behind)

-- one value at all places of a range
pub map_all : {X : Type 0} (f : ℕ → X) (x : X) (a n : ℕ) → ((p : ℕ) → a ≤ p → p < a + n → f p ≡ x)
    → map f (range_with_len a n) ≡ replicate n x
map_all f x a zero is = refl
map_all f x a (suc n) is =
    ap (λ y. y ∷ map f (range_with_len (a + 1) n)) (is a (omega arith) (omega arith))
    ∙ ap (λ xs. x ∷ xs) (map_all f x (a + 1) n (λ p low high. is p (omega arith) (omega arith)))

-- the member at a place
pub map_get : {X : Type 0} (f : ℕ → X) (a n k : ℕ) → k < n → slice_get (map f (range_with_len a n)) k ≡ Some (f (a + k))
map_get f a zero k inside = absurd (omega arith)
map_get f a (suc n) zero inside = (let here : a ≡ a + zero = omega arith in ap (λ p. Some (f p)) here)
map_get f a (suc n) (suc k) inside =
    let behind : a + 1 + k ≡ a + suc k = omega arith in
    map_get f (a + 1) n k (omega arith) ∙ ap (λ p. Some (f p)) behind

-- one place that changes
pub map_set : {X : Type 0} (f g : ℕ → X) (a n k : ℕ) → k < n → ((p : ℕ) → p ≢ a + k → f p ≡ g p)
    → map g (range_with_len a n) ≡ slice_set (map f (range_with_len a n)) k (g (a + k))
map_set f g a zero k inside others = absurd (omega arith)
map_set f g a (suc n) zero inside others =
    let here : a ≡ a + zero = omega arith in
    ap (λ p. g p ∷ map g (range_with_len (a + 1) n)) here
    ∙ ap (λ xs. g (a + zero) ∷ xs) (sym (map_same f g (a + 1) n (λ p low high. others p (λ same. omega arith))))
map_set f g a (suc n) (suc k) inside others =
    let behind : a + 1 + k ≡ a + suc k = omega arith in
    ap (λ x. x ∷ map g (range_with_len (a + 1) n)) (sym (others a (λ same. omega arith)))
    ∙ ap (λ xs. f a ∷ xs) (map_set f g (a + 1) n k (omega arith) (λ p apart. others p (λ same. apart (same ∙ sym behind)))
    ∙ ap (λ p. slice_set (map f (range_with_len (a + 1) n)) k (g p)) behind)

-- a range in two parts, by how long the first is
pub map_parts : {X : Type 0} (f : ℕ → X) (a k n : ℕ) → k ≤ n
    → map f (range_with_len a n) ≡ map f (range_with_len a k) ++ map f (range_with_len (a + k) (n - k))
map_parts f a k n within =
    let whole : n ≡ k + (n - k) = omega arith in
    ap (λ j. map f (range_with_len a j)) whole ∙ map_more f a k (n - k)
