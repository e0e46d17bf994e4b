-- Products of matrices may be grouped in any way.
use Rattle.std.proofs.Common.{◌≡◌, ℕ, ◌+◌, ◌*◌, ◌%◌, ◌^◌, ◌<◌, sym, ap, ◌∙◌, subst, arith, lit<}
use Rattle.std.proofs.Math.Nat.{add-mod-mod, mod-add-mod, mod-lt, mod-eq_of_lt, add-mul, mul-add, mul_assoc}
use Rattle.std.proofs.lemmas.Nat.{mul-mod_first, mul-mod_second}
use Rattle.span_core.specs.Loops.{Joins}
use Rattle.owner_tests.specs.Matrix.{MatrixView, IsMatrix, dot, times, identity}

module _ (k : ℕ) where
  -- of a sum, both parts may be cut down before
  cut_sum : (x y : ℕ) → (x % k + y % k) % k ≡ (x + y) % k
  cut_sum x y = mod-add-mod x k (y % k) ∙ add-mod-mod x y k

  cut_rows : (x y r s : ℕ) → (x % k * r + y % k * s) % k ≡ (x * r + y * s) % k
  cut_rows x y r s =
      sym (cut_sum (x % k * r) (y % k * s))
      ∙ ap (λ u. (u + y % k * s % k) % k) (mul-mod_first x r k)
      ∙ ap (λ v. (x * r % k + v) % k) (mul-mod_first y s k)
      ∙ cut_sum (x * r) (y * s)

  cut_columns : (p q x y : ℕ) → (p * (x % k) + q * (y % k)) % k ≡ (p * x + q * y) % k
  cut_columns p q x y =
      sym (cut_sum (p * (x % k)) (q * (y % k)))
      ∙ ap (λ u. (u + q * (y % k) % k) % k) (mul-mod_second p x k)
      ∙ ap (λ v. (p * x % k + v) % k) (mul-mod_second q y k)
      ∙ cut_sum (p * x) (q * y)

-- what is cut down on the way is cut down in the end
pub cut_dot : (a b c d : ℕ) → (a * c % 2 ^ 64 + b * d % 2 ^ 64) % 2 ^ 64 ≡ dot a b c d
cut_dot a b c d = cut_sum (2 ^ 64) (a * c) (b * d)

-- four products, summed by columns and by rows
regroup : (p q e f g h r s : ℕ) → (p * e + q * g) * r + (p * f + q * h) * s ≡ p * (e * r + f * s) + q * (g * r + h * s)
regroup p q e f g h r s =
    let a = add-mul (p * e) (q * g) r in
    let b = add-mul (p * f) (q * h) s in
    let c = mul-add p (e * r) (f * s) in
    let d = mul-add q (g * r) (h * s) in
    omega (arith, a, b, c, d, mul_assoc p e r, mul_assoc q g r, mul_assoc p f s, mul_assoc q h s)

-- an entry of a product of three, grouped in both ways
entry : (p q e f g h r s : ℕ) → dot (dot p q e g) (dot p q f h) r s ≡ dot p q (dot e f r s) (dot g h r s)
entry p q e f g h r s =
    cut_rows (2 ^ 64) (p * e + q * g) (p * f + q * h) r s
    ∙ ap (λ n. n % 2 ^ 64) (regroup p q e f g h r s)
    ∙ sym (cut_columns (2 ^ 64) p q (e * r + f * s) (g * r + h * s))

fits : (m n : MatrixView) → IsMatrix (times m n)
fits m n = record {
  a = mod-lt (m.a * n.a + m.b * n.c) (lit< tt);
  b = mod-lt (m.a * n.b + m.b * n.d) (lit< tt);
  c = mod-lt (m.c * n.a + m.d * n.c) (lit< tt);
  d = mod-lt (m.c * n.b + m.d * n.d) (lit< tt);
}

same : {m n : MatrixView} → m.a ≡ n.a → m.b ≡ n.b → m.c ≡ n.c → m.d ≡ n.d → m ≡ n
same a b c d = λ i. record { a = a i; b = b i; c = c i; d = d i }

grouped : (m n k : MatrixView) → times (times m n) k ≡ times m (times n k)
grouped m n k =
    same (entry m.a m.b n.a n.b n.c n.d k.a k.c) (entry m.a m.b n.a n.b n.c n.d k.b k.d)
    (entry m.c m.d n.a n.b n.c n.d k.a k.c) (entry m.c m.d n.a n.b n.c n.d k.b k.d)

-- a number that fits, once the other product is nothing
first_of : (x y : ℕ) → x < 2 ^ 64 → (1 * x + 0 * y) % 2 ^ 64 ≡ x
first_of x y small = let e : 1 * x + 0 * y ≡ x = omega arith in ap (λ n. n % 2 ^ 64) e ∙ mod-eq_of_lt small

second_of : (x y : ℕ) → y < 2 ^ 64 → (0 * x + 1 * y) % 2 ^ 64 ≡ y
second_of x y small = let e : 0 * x + 1 * y ≡ y = omega arith in ap (λ n. n % 2 ^ 64) e ∙ mod-eq_of_lt small

of_first : (x y : ℕ) → x < 2 ^ 64 → (x * 1 + y * 0) % 2 ^ 64 ≡ x
of_first x y small = let e : x * 1 + y * 0 ≡ x = omega arith in ap (λ n. n % 2 ^ 64) e ∙ mod-eq_of_lt small

of_second : (x y : ℕ) → y < 2 ^ 64 → (x * 0 + y * 1) % 2 ^ 64 ≡ y
of_second x y small = let e : x * 0 + y * 1 ≡ y = omega arith in ap (λ n. n % 2 ^ 64) e ∙ mod-eq_of_lt small

from_left : (m : MatrixView) → IsMatrix m → times identity m ≡ m
from_left m is = same (first_of m.a m.c is.a) (first_of m.b m.d is.b) (second_of m.a m.c is.c) (second_of m.b m.d is.d)

from_right : (m : MatrixView) → IsMatrix m → times m identity ≡ m
from_right m is = same (of_first m.a m.b is.a) (of_second m.a m.b is.b) (of_first m.c m.d is.c) (of_second m.c m.d is.d)

-- a function that returns the product joins matrices by it, from the identity
pub products_join : (post : MatrixView → MatrixView → MatrixView → Type 0) (unit : MatrixView) → unit ≡ identity
    → ((m n r : MatrixView) → post m n r → r ≡ times m n) → Joins post IsMatrix unit times
products_join post unit is does =
    subst (λ (u : MatrixView). Joins post IsMatrix u times) (sym is)
    (record {
      inside = record { a = lit< tt; b = lit< tt; c = lit< tt; d = lit< tt };
      computes = λ m n r _ _ made. does m n r made;
      stays = λ m n _ _. fits m n;
      associative = λ m n k _ _ _. grouped m n k;
      from_left = λ m is. from_left m is;
      from_right = λ m is. from_right m is;
    })
