-- A word with a field of four bits for each member of a list.
use Rattle.std.specs.Prelude.{ℕ, zero, suc, ◌+◌, ◌*◌, ◌/◌, ◌%◌, ◌^◌, List, [], ◌∷◌}

-- the word with these fields, the first one lowest
abbrev pub pack : {A : Type 0} → List A → (ℕ → ℕ) → ℕ
pack [] f = 0
pack (x ∷ xs) f = f 0 + 16 * pack xs (λ i. f (suc i))

-- the field of a word at an index
abbrev pub field : ℕ → ℕ → ℕ
field word i = word / 16 ^ i % 16

-- the function that differs from f at an index alone
abbrev pub put : {A : Type 0} → ℕ → A → (ℕ → A) → ℕ → A
put zero x f zero = x
put zero x f (suc k) = f (suc k)
put (suc i) x f zero = f zero
put (suc i) x f (suc k) = put i x (λ j. f (suc j)) k

-- the number k in each of n fields, from the one at an index on
abbrev pub sums : ℕ → ℕ → ℕ → ℕ
sums k zero i = 0
sums k (suc n) i = k * 16 ^ i + sums k n (suc i)
