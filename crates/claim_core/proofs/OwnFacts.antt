-- Owning a run, said without its index.
use Rattle.std.proofs.Common.{◌≡◌, ℕ, ◌<◌, Bool, true, false, ◌&&◌, ◌==◌, nat_lt, length, refl, sym, arith}
use mathlib.Core.Bool.{true≢false}
use Rattle.std.specs.Prelude.{slice_index}
use Rattle.std.proofs.lemmas.Bool.{and_from}
use Rattle.std.proofs.lemmas.Bool.Decides.{nat_tests}
use Rattle.std.proofs.lemmas.List.Folds.{Any-from_list_any, list_any-from_Any}
use Rattle.claim_core.specs.declared.run.Run.{Run}
use Rattle.claim_core.specs.Lengths.{run_start}
use Rattle.claim_core.specs.Hand.{HandView, SeesRun, OwnsRun, IsOwnRun, is_run_at}
use Rattle.claim_core.specs.Laws.{OwnRunsAreFacts}

both_true : (x y : Bool) → (x && y) ≡ true → (x ≡ true) × (y ≡ true)
both_true true y e = (refl, e)
both_true false y e = absurd (true≢false (sym e))

below_tells : (a b : ℕ) → nat_lt a b ≡ true → a < b
below_tells a b e = grind (arith, nat_tests)

below_is : (a b : ℕ) → a < b → nat_lt a b ≡ true
below_is a b e = grind (arith, nat_tests)

same_tells : (a b : ℕ) → (a == b) ≡ true → a ≡ b
same_tells a b e = grind (arith, nat_tests)

same_is : (a b : ℕ) → a ≡ b → (a == b) ≡ true
same_is a b e = grind (arith, nat_tests)

-- the test succeeds for the run of this index
is_at : (hand : HandView) (run : Run) (k : ℕ) → SeesRun hand k run → is_run_at hand run k ≡ true
is_at hand run k sees =
    and_from (nat_lt k (length hand.seen)) _ (below_is _ _ sees.there)
    (and_from (run.from == run_start hand.of.base hand.seen k) (run.n == slice_index hand.seen k) (same_is _ _ sees.from) (same_is _ _ sees.n))

-- and for no other
sees_at : (hand : HandView) (run : Run) (k : ℕ) → is_run_at hand run k ≡ true → SeesRun hand k run
sees_at hand run k is =
    let first = both_true (nat_lt k (length hand.seen)) ((run.from == run_start hand.of.base hand.seen k) && (run.n == slice_index hand.seen k)) is in
    let rest = both_true (run.from == run_start hand.of.base hand.seen k) (run.n == slice_index hand.seen k) first.1 in
    record { there = below_tells _ _ first.0; from = same_tells _ _ rest.0; n = same_tells _ _ rest.1 }

pub own_is_fact : OwnRunsAreFacts
own_is_fact hand run = (
  λ (owns : OwnsRun hand run). list_any-from_Any (λ k. is_run_at hand run k) hand.mine (owns.1.0, owns.0, owns.1.1, owns.1.2, is_at hand run owns.0 owns.2),
  λ (fact : IsOwnRun hand run). let m = Any-from_list_any (λ k. is_run_at hand run k) hand.mine fact in (m.1, (m.0, m.2, m.3), sees_at hand run m.1 m.4),
)
