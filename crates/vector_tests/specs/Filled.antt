-- The results of a thread's calls as steps of one history, which also tells which places were filled, broken and looked at.
use Rattle.std.specs.Prelude.{◌≡◌, ℕ, List, [], ◌++◌, Result, Ok, Err}
use Rattle.claim_core.specs.declared.run.Run.{Run}
use Rattle.claim_core.specs.Hand.{HandView, IsPlaceOf, OwnsRun}
use Rattle.claim_core.specs.History.{Log, Adds, claim_event, full_event, memory_event, past_event, size_event}
use Rattle.grow_core.specs.declared.errors.GrowError.{GrowError}
use Rattle.grow_core.specs.declared.errors.GrowError.TheVariants.{NoMemory, Full, Moved, Refused, Taken}
use Rattle.grow_core.specs.declared.errors.AtError.{AtError}
use Rattle.grow_core.specs.declared.errors.AtError.TheVariants as at
use Rattle.grow_core.specs.Token.{PlacedView}
use Rattle.grow_core.specs.Grown.{GrownView}
use Rattle.grow_core.specs.Growth.{single}
use Rattle.grow_core.specs.Logs.{step_of, fill_steps, stop_steps, pending_look, value_look, broken_look}

-- a growth by n places returned this, and these are its steps. Its run is claimed, and then each place is filled, in order;
-- or a construction was refused, and the places after those that were made are broken; or it is the event whose reply its
-- refusal is. No place is taken
abbrev pub AreStepsOf : {X T V E : Type 0} → (X → Run) → ℕ → Result X (GrowError T V E) → List Log → Type 0
AreStepsOf run_of n (Ok x) steps =
    (index : ℕ) × (steps ≡ step_of (claim_event index (run_of x)) ++ fill_steps index (run_of x).from (run_of x).n)
AreStepsOf run_of n (Err (NoMemory back)) steps = steps ≡ step_of memory_event
AreStepsOf run_of n (Err (Full size back)) steps = steps ≡ step_of (full_event n size)
AreStepsOf run_of n (Err (Moved size back)) steps = steps ≡ []
AreStepsOf run_of n (Err (Refused run made cause)) steps =
    (index : ℕ) × (steps ≡ step_of (claim_event index run) ++ stop_steps index run made.run.n)
AreStepsOf run_of n (Err (Taken place found)) steps = ⊥

-- a read without a token returned this, by this step
abbrev pub IsStepOfRead : {T : Type 0} → ℕ → Result (PlacedView T) AtError → List Log → Type 0
IsStepOfRead place (Ok placed) steps = steps ≡ step_of (value_look place)
IsStepOfRead place (Err (at.OutOfRange size)) steps = steps ≡ step_of (past_event place size)
IsStepOfRead place (Err at.Pending) steps = steps ≡ step_of (pending_look place)
IsStepOfRead place (Err (at.Broken spoilt)) steps = steps ≡ step_of (broken_look place)

-- the same, of a hand: what the read returned is what it has added
abbrev pub LogsFind : {T : Type 0} → ℕ → HandView → HandView → Result (PlacedView T) AtError → Type 0
LogsFind place old new result = (steps : List Log) × IsStepOfRead place result steps × Adds old.log steps new.log

-- a thread pushed, grew by n places, failed a construction of n places, read a place, and asked for the size: the history
-- has the results, in this order
pub record IsDoneIn {T V W E F G : Type 0} (old : Log) (n place : ℕ) (pushed : Result (PlacedView T) (GrowError T V E))
    (grown : Result (GrownView T) (GrowError T W F)) (failed : Result (GrownView T) (GrowError T W G))
    (read : Result (PlacedView T) AtError) (size : ℕ) (log : Log) : Type 0 where
  pub push : List Log
  pub growth : List Log
  pub failure : List Log
  pub look : List Log
  pub pushes : AreStepsOf (λ (p : PlacedView T). single p.place) 1 pushed push
  pub grows : AreStepsOf (λ (g : GrownView T). g.run) n grown growth
  pub fails : AreStepsOf (λ (g : GrownView T). g.run) n failed failure
  pub looks : IsStepOfRead place read look
  pub part : Adds old (push ++ growth ++ failure ++ look ++ step_of (size_event size)) log

-- the run of a refused construction has no such place
abbrev pub IsBesidePlace : {T V E : Type 0} → ℕ → GrowError T V E → Type 0
IsBesidePlace place (Refused run made cause) = IsPlaceOf run place → ⊥
IsBesidePlace place refusal = Unit {0}

-- the hand owns the run of a refused construction
abbrev pub OwnsRefused : {T V E : Type 0} → HandView → GrowError T V E → Type 0
OwnsRefused hand (Refused run made cause) = OwnsRun hand run
OwnsRefused hand refusal = Unit {0}
