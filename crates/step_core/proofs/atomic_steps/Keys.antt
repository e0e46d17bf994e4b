-- Keys of the finite maps and sets that the machine's storage is made of.
use Rattle.std.proofs.Common.{◌≡◌, ◌≢◌, ℕ, ◌==◌, true, false, ◌∙◌, arith}
use Rattle.std.proofs.lemmas.Bool.Decides.{nat_tests}
use Rattle.std.specs.Ordering.{nat_cmp, eq_by_cmp}
use Rattle.std.specs.Cmp.{unsigned_tied}

-- a key ties with itself
pub same_key : (k : ℕ) → eq_by_cmp nat_cmp k k ≡ true
same_key k = unsigned_tied k k ∙ (let e : (k == k) ≡ true = grind (arith, nat_tests) in e)

-- another key does not
pub other_key : (q k : ℕ) → q ≢ k → eq_by_cmp nat_cmp q k ≡ false
other_key q k apart = unsigned_tied q k ∙ (let e : (q == k) ≡ false = grind (arith, nat_tests) in e)
