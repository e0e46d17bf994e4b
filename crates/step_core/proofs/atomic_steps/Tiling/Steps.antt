-- A step keeps what holds, by its effect and by what its actor knows then.
use Rattle.std.proofs.Common.{◌≡◌, ℕ, ◌<◌, List, [], ◌++◌, Some, slice_get, slice_set, refl, ap, sym, ◌∙◌, subst}
use Rattle.std.proofs.lemmas.List.{append-nil}
use Rattle.std.specs.Option.{option_to_list}
use Rattle.std.specs.FinMap as map
use Rattle.book_core.specs.declared.events.Event.{Event}
use Rattle.book_core.specs.History.{OwnedRun, runs_of, owner_of, Tile, writes_of}
use Rattle.step_core.specs.declared.machine.phase.Phase.{Phase}
use Rattle.step_core.specs.declared.machine.phase.Phase.TheVariants.{Load}
use Rattle.step_core.specs.declared.machine.phase.Next.{Next}
use Rattle.step_core.specs.declared.machine.phase.Next.TheVariants.{Goes, Ends}
use Rattle.step_core.specs.declared.machine.phase.Actor.{Actor}
use Rattle.step_core.specs.machine.Storage.{Storage}
use Rattle.step_core.specs.machine.Step.{actor_after, Outcome}
use Rattle.step_core.specs.machine.Tiling.{IsUnfinished}
use Rattle.step_core.proofs.atomic_steps.Tiling.Invariant.{IsOpen, Knows, Settlement, Holds, Effect}
use Rattle.step_core.proofs.atomic_steps.Tiling.Effects.{Covered, combined}

-- the phase of an actor after a step
abbrev pub phase_after : Next → Phase
phase_after (Goes phase) = phase
phase_after (Ends answer) = Load

phase_after_is : (state : Actor) (next : Next) → (actor_after state next).phase ≡ phase_after next
phase_after_is state (Goes phase) = refl
phase_after_is state (Ends answer) = refl

-- between two steps, with a step of this actor
pub record Stands (m : Storage) (actors : List Actor) (runs : List OwnedRun) (writes : ℕ → List Event) (actor : ℕ) (state : Actor) (phase : Phase) : Type 0 where
  pub holds : Holds m actors runs writes
  pub there : slice_get actors actor ≡ Some state
  pub stands : state.phase ≡ phase

-- what a step leaves and gives keeps what holds
abbrev pub Kept : List Actor → List OwnedRun → (ℕ → List Event) → ℕ → Actor → Outcome → Type 0
Kept actors runs writes actor state o =
    Holds o.storage (slice_set actors actor (actor_after state o.next)) (runs ++ runs_of (option_to_list o.event)) (λ q. writes q ++ writes_of q (option_to_list o.event))

-- the effect of a step, what its actor knows then, and that each unfinished place is covered
pub kept_by : {m : Storage} {actors : List Actor} {runs : List OwnedRun} {writes : ℕ → List Event} {actor : ℕ}
    {state : Actor} {phase : Phase}
    → Stands m actors runs writes actor state phase → (o : Outcome)
    → Effect actor m o.storage runs (runs ++ runs_of (option_to_list o.event)) writes
    (λ q. writes q ++ writes_of q (option_to_list o.event))
    → Knows o.storage (runs ++ runs_of (option_to_list o.event)) (λ q. writes q ++ writes_of q (option_to_list o.event)) actor (phase_after o.next)
    → ((q : ℕ) → q < o.storage.size → IsUnfinished (map.get o.storage.slots q) → Covered actor m o.storage phase (phase_after o.next) q)
    → Kept actors runs writes actor state o
kept_by {m = m} {runs = runs} {writes = writes} {actor = actor} {state = state} {phase = phase} s o effect knows covered =
    combined s.holds actor state (actor_after state o.next) s.there effect
    (subst (Knows o.storage (runs ++ runs_of (option_to_list o.event)) (λ q. writes q ++ writes_of q (option_to_list o.event)) actor) (sym (phase_after_is state o.next)) knows)
    (λ q inside unfinished. subst (λ p. Covered actor m o.storage p (actor_after state o.next).phase q) (sym s.stands) (subst (λ p. Covered actor m o.storage phase p q) (sym (phase_after_is state o.next)) (covered q inside unfinished)))

-- an effect as an event tells it that adds runs, and does nothing at a place
pub told_effect : {actor : ℕ} {m m' : Storage} {runs runs' : List OwnedRun} {writes : ℕ → List Event}
    (added : List OwnedRun) (gained : ℕ → List Event)
    → runs' ≡ runs ++ added → ((q : ℕ) → gained q ≡ []) → Effect actor m m' runs runs' writes writes
    → Effect actor m m' runs (runs ++ added) writes (λ q. writes q ++ gained q)
told_effect {m' = m'} {runs = runs} {runs' = runs'} {writes = writes} added gained runs_are nothing effect =
    let same : (q : ℕ) → writes q ++ gained q ≡ writes q = λ q. ap (λ xs. writes q ++ xs) (nothing q) ∙ append-nil (writes q) in
    record {
      tile = subst (λ rs. Tile 0 rs m'.size) runs_are effect.tile;
      taken = effect.taken;
      settled = λ q. subst (λ rs. Settlement rs (writes q ++ gained q) q (map.get m'.slots q)) runs_are
          (subst (λ xs. Settlement runs' xs q (map.get m'.slots q)) (sym (same q)) (effect.settled q));
      grows = effect.grows;
      stays_owned = λ q owner is. subst (λ rs. owner_of rs q ≡ Some owner) runs_are (effect.stays_owned q owner is);
      others = λ q other apart its_own. ((effect.others q other apart its_own).0, same q);
      gives = λ q other apart its_own. effect.gives q other apart (subst (λ rs. IsOpen rs other q (map.get m'.slots q)) (sym runs_are) its_own);
    }
