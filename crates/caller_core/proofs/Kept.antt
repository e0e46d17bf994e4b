-- What a growth keeps of a hand.
use Rattle.std.proofs.Common.{zero, suc, Result, ◌≡◌, ◌<◌, ℕ, refl, subst, arith}
use Rattle.claim_core.specs.declared.run.Run.{Run}
use Rattle.claim_core.specs.Hand.{HandView}
use Rattle.claim_core.specs.History.{raise_event}
use Rattle.grow_core.specs.declared.grow_to_at_least.AtLeast.{AtLeast}
use Rattle.grow_core.specs.declared.grow_to_at_least.AtLeast.TheVariants.{Ran}
use Rattle.grow_core.specs.AtLeast.{WonAtLeast}
use Rattle.grow_core.specs.Grown.{GrownView}
use Rattle.grow_core.specs.Growth.{Grows}
use Rattle.grow_core.specs.Logs.{AllFilled, LogsWin}
use Rattle.grow_core.specs.Vector.{VectorView}
use Rattle.caller_core.specs.Grows.{LogsUpTo}

shares_by : (old new : HandView) (run : Run) (n : ℕ) → run.n ≡ n → Grows old new run → new.shares ≡ old.shares
shares_by old new run zero is won = (won.empty is).own.shares
shares_by old new run (suc n) is won = (won.claimed (omega (arith, is))).shares

of_by : (old new : HandView) (run : Run) (n : ℕ) → run.n ≡ n → Grows old new run → new.of ≡ old.of
of_by old new run zero is won = (won.empty is).own.of
of_by old new run (suc n) is won = (won.claimed (omega (arith, is))).of

-- the hand has the same shares
pub grows_shares : (old new : HandView) (run : Run) → Grows old new run → new.shares ≡ old.shares
grows_shares old new run won = shares_by old new run run.n refl won

-- it is of the same word
pub grows_of : (old new : HandView) (run : Run) → Grows old new run → new.of ≡ old.of
grows_of old new run won = of_by old new run run.n refl won

-- a run is what its parts are
pub run_is : (run : Run) (from n : ℕ) → run.from ≡ from → run.n ≡ n → run ≡ record { from = from; n = n }
run_is run from n is_from is_n = subst (λ (m : ℕ). run ≡ record { from = from; n = m }) is_n
    (subst (λ (f : ℕ). run ≡ record { from = f; n = run.n }) is_from refl)

-- a growth up to a size that ran has a place
pub some_ran : {F T E : Type 0} → (step : F → ℕ → Result T E → F → Type 0) (maker : F) (v : VectorView T) (size : ℕ) (old new : HandView)
    (at : AtLeast T) (grown : GrownView T) → at ≡ Ran grown → WonAtLeast step maker v size old new at → 0 < grown.run.n
some_ran {F} {T} {E} step maker v size old new at grown is won =
    (subst (λ (a : AtLeast T). WonAtLeast step maker v size old new a) is won).1

-- a growth up to a size that ran
pub logs_up_to : (size : ℕ) (old new : HandView) (run : Run) (place : ℕ) → 0 < run.n → run.from ≡ place
    → LogsWin (λ index. raise_event index size run) AllFilled run old new → LogsUpTo size old new place run.n
logs_up_to size old new run place some is_from logs = record {
  some = λ _. subst
      (λ (f : ℕ). LogsWin (λ index. raise_event index size (record { from = f; n = run.n })) AllFilled (record { from = f; n = run.n }) old new)
      is_from logs;
  none = λ none. absurd (omega (arith, none, some));
}
