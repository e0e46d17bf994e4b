-- What steps on places do to the hand that makes them, and which events they add to the history that it has seen.
use Rattle.std.specs.Prelude.{◌≡◌, ◌⊎◌, ℕ, ◌+◌, ◌<◌, ◌≤◌, List, length}
use Rattle.std.specs.List.{Contains}
use mathlib.Core.List.{IsPrefix}
use Rattle.book_core.specs.declared.events.Event.{Event}
use Rattle.book_core.specs.declared.events.Reply.{Reply}
use Rattle.claim_core.specs.declared.role.RowAt.{RowAt}
use Rattle.claim_core.specs.declared.run.Run.{Run}
use Rattle.claim_core.specs.Lengths.{InRun}
use Rattle.claim_core.specs.Hand.{HandView, KeepsOwn, SeesRun}
use Rattle.claim_core.specs.History.{Log, Adds}
use Rattle.grow_core.specs.declared.errors.GrowError.{GrowError}
use Rattle.grow_core.specs.declared.errors.GrowError.TheVariants.{Refused}
use Rattle.grow_core.specs.Logs.{step_of, stop_steps}

-- the hand has seen the same size, and owns the same
pub record KeepsHand (old new : HandView) : Type 0 where
  pub own : KeepsOwn old new
  pub seen : new.seen ≡ old.seen

-- the hand fills or breaks n places from one on, or begins some of them: it knows no other place begun that it did not
-- know so before
pub record WorksIn (old new : HandView) (from n : ℕ) : Type 0 where
  pub keeps : KeepsHand old new
  pub rows : new.rows ≡ old.rows
  pub begun : (place : ℕ) → Contains new.begun place → ((from ≤ place) × (place < from + n)) ⊎ Contains old.begun place
  pub more : IsPrefix old.log new.log

-- the hand finds entries, and may know more rows
pub record FindsMore (old new : HandView) : Type 0 where
  pub keeps : KeepsHand old new
  pub rows : (row : RowAt) → Contains old.rows row → Contains new.rows row
  pub begun : new.begun ≡ old.begun
  pub more : IsPrefix old.log new.log

-- the hand looks at places, by these steps, and may know more rows
pub record LooksAt (old new : HandView) (steps : List Log) : Type 0 where
  pub finds : FindsMore old new
  pub adds : Adds old.log steps new.log

-- none of n places from one on is known to be begun
abbrev pub AreFresh : HandView → ℕ → ℕ → Type 0
AreFresh hand from n = (place : ℕ) → from ≤ place → place < from + n → Contains hand.begun place → ⊥

-- the hand owns the run, under this index
pub record OwnsRunAt (hand : HandView) (index : ℕ) (run : Run) : Type 0 where
  pub owned : Contains hand.mine index
  pub sees : SeesRun hand index run

-- a run that the hand has just claimed: the hand owns it under the last index that it has seen, and knows none of its
-- places begun
pub record IsNewRun (hand : HandView) (run : Run) : Type 0 where
  pub owned : 0 < run.n → (index : ℕ) → length hand.seen ≡ index + 1 → OwnsRunAt hand index run
  pub fresh : AreFresh hand run.from run.n

-- the place is one of the hand's run of this index
pub record OwnsPlaceAt (hand : HandView) (index place : ℕ) : Type 0 where
  pub owned : Contains hand.mine index
  pub in_run : InRun hand.of.base hand.seen index place

-- the hand works on a place of its own: the event is of the actor whose index its run has
abbrev pub AddsAt : HandView → HandView → ℕ → (ℕ → Event × Reply) → Type 0
AddsAt old new place event = (index : ℕ) → OwnsPlaceAt old index place → Adds old.log (step_of (event index)) new.log

-- the hand works on n places next to each other that are all in its run of one index
abbrev pub AddsAlong : HandView → HandView → ℕ → ℕ → (ℕ → List Log) → Type 0
AddsAlong old new from n steps =
    (index : ℕ) → ((i : ℕ) → i < n → OwnsPlaceAt old index (from + i)) → Adds old.log (steps index) new.log

-- the hand works on its run of an index: the steps are of the actor of that index
abbrev pub AddsOn : HandView → HandView → Run → (ℕ → List Log) → Type 0
AddsOn old new run steps = (index : ℕ) → OwnsRunAt old index run → Adds old.log (steps index) new.log

-- the hand's run could not be filled: after a refused construction the first places are filled and the others broken
abbrev pub StopsWith : {T V E : Type 0} → HandView → HandView → Run → GrowError T V E → Type 0
StopsWith old new run (Refused of made cause) = AddsOn old new run (λ index. stop_steps index run made.run.n)
StopsWith old new run refusal = ⊥
