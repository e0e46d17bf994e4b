-- Sums of numbers of 64 bits, without what does not fit.
use Rattle.std.proofs.Common.{◌≡◌, ℕ, ◌+◌, ◌%◌, ◌^◌, sym, ap, ◌∙◌, arith, add_assoc, lit<}
use Rattle.std.proofs.Math.Nat.{add-mod-mod, mod-add-mod, mod-lt, mod-eq_of_lt}
use Rattle.span_core.specs.Loops.{SumsWrap, wrapping_sum}

sum_assoc : (a b c : ℕ) → wrapping_sum (wrapping_sum a b) c ≡ wrapping_sum a (wrapping_sum b c)
sum_assoc a b c =
    let m = 2 ^ 64 in
    mod-add-mod (a + b) m c ∙ ap (λ n. n % m) (add_assoc a b c) ∙ sym (add-mod-mod a (b + c) m)

-- a function that returns that sum joins by it
pub sums_wrap : (post : ℕ → ℕ → ℕ → Type 0) → SumsWrap post
sums_wrap post does = record {
  inside = lit< tt;
  computes = λ a b r _ _ made. does a b r made;
  stays = λ a b _ _. mod-lt (a + b) (lit< tt);
  associative = λ a b c _ _ _. sum_assoc a b c;
  from_left = λ a small. let z : 0 + a ≡ a = omega arith in ap (λ n. n % 2 ^ 64) z ∙ mod-eq_of_lt small;
  from_right = λ a small. let z : a + 0 ≡ a = omega arith in ap (λ n. n % 2 ^ 64) z ∙ mod-eq_of_lt small;
}
