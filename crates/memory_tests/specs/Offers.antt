-- The gains of a hand by steps on tied cells.
use Rattle.std.specs.Prelude.{◌≡◌, ℕ, Result, Ok, Err, [], ◌∷◌, ◌++◌}
use Rattle.std.specs.List.{Contains}
use mathlib.Core.List.{IsPrefix}
use Rattle.cell_core.specs.declared.block.shown.Found.{Found}
use Rattle.cell_core.specs.declared.block.shown.Found.TheVariants as found
use Rattle.cell_core.specs.Shown.{IsNotBroken}
use Rattle.claim_core.specs.declared.role.CellStage.{CellStage}
use Rattle.claim_core.specs.declared.role.CellStage.TheVariants as stages
use Rattle.claim_core.specs.Lengths.{InRun}
use Rattle.claim_core.specs.History.{AddsEvents, Adds, fill_event, fill_steps, mend_event}
use Rattle.claim_core.specs.Hand.{HandView}
use Rattle.claim_core.specs.Plays.{places_back, AreInRun}
use Rattle.claim_core.specs.SeatSteps.{look_event}

-- the last event that it has seen is a look at the place, which shows how far the cell was
abbrev pub HasLooked : ℕ → HandView → HandView → Type 0
HasLooked place old new = (stage : CellStage) × AddsEvents old.log (look_event place stage ∷ []) new.log

-- It knows that its own place is begun, and the last event that it has seen is the fill, by the claim that has the
-- index of the place's run
pub record HasFilled (place : ℕ) (old new : HandView) : Type 0 where
  pub index : ℕ
  pub owned : Contains old.mine index
  pub in_run : InRun old.of.base old.seen index place
  pub log : AddsEvents old.log (fill_event index place ∷ []) new.log
  pub begun : new.begun ≡ place ∷ old.begun

-- how far a cell was that a call did not get
abbrev pub found_stage : {T : Type 0} → Found T → CellStage
found_stage found.Empty = stages.Idle
found_stage (found.Busy begun) = stages.Mending
found_stage (found.Filled placed) = stages.Filled
found_stage (found.Broken spoilt) = stages.Broken

-- the last event that it has seen is the mend, or a look that found the place pending or filled
abbrev pub HasTried : {P T : Type 0} → ℕ → HandView → HandView → Result P (Found T) → Type 0
HasTried place old new (Ok pen) = AddsEvents old.log (mend_event old.of.limit place ∷ []) new.log
HasTried place old new (Err it) = IsNotBroken it × AddsEvents old.log (look_event place (found_stage it) ∷ []) new.log

-- it knows that n places from one on are begun, and knows no other begun that it did not know so before
pub record HasBegunRun (place n : ℕ) (old new : HandView) : Type 0 where
  pub begun : new.begun ≡ places_back place n ++ old.begun
  pub log : IsPrefix old.log new.log

-- if n places from one on are all in one run, it has added a fill of each, in order, by the claim that has its index
abbrev pub HasFilledRun : ℕ → ℕ → HandView → HandView → Type 0
HasFilledRun place n old new =
    (index : ℕ) → AreInRun old.of.base old.seen index place n → Adds old.log (fill_steps index place n) new.log
