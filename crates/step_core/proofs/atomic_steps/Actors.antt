-- The step of one actor, by its state, and the phases of its call.
use Rattle.std.proofs.Common.{◌≡◌, ℕ, ◌+◌, ◌<◌, ◌≤◌, Bool, true, false, List, [], ◌∷◌, if◌then◌else◌, is_some, Option, Some, None, IfSome, Result, Ok, Err, IfOk, OnErr, slice_get, slice_set, length, get_or, zero, suc, refl, sym, ap, ◌∙◌, subst, arith}
use Rattle.seg_core.specs.Segment.{most_places}
use Rattle.book_core.proofs.Lists.{at_place, get_set}
use Rattle.book_core.specs.declared.commands.Command.{Command}
use Rattle.step_core.specs.declared.machine.phase.Phase.{Phase}
use Rattle.step_core.specs.declared.machine.phase.Phase.TheVariants.{Load, Scout, Put, Exchange, Raise, Begin, Fill, Spoil, Mend, FillMended, Look}
use Rattle.step_core.specs.declared.machine.phase.Next.{Next}
use Rattle.step_core.specs.declared.machine.phase.Next.TheVariants.{Goes, Ends}
use Rattle.step_core.specs.declared.machine.phase.Actor.{Actor}
use Rattle.step_core.specs.declared.machine.storage.StepOutcome.{StepOutcome as Given}
use Rattle.step_core.specs.machine.Storage.{Storage}
use Rattle.step_core.specs.machine.Bounds.{IsWithin, IsPlaced, IsInLimit, given}
use Rattle.step_core.specs.machine.Step.{Configuration, Step, IsStepped, actor_after, ended_by, no_step, outcome_of, step_as, step_in, step_of, step_to}
use Rattle.step_core.specs.machine.Tallies.{HasRoom, phases_at}
use Rattle.step_core.specs.machine.Work.{has_command, phase_in, phase_of, phase_at}

-- what a list has at an index below its length
pub there_of : {X : Type 0} (xs : List X) (i : ℕ) (x : X) → i < length xs → x ≡ get_or xs i x → slice_get xs i ≡ Some x
there_of [] i x near is = absurd (omega (arith, near))
there_of (h ∷ xs) zero x near is = ap Some (sym is)
there_of (h ∷ xs) (suc i) x near is = there_of xs i x (omega (arith, near)) is

pub any_err : {A E P : Type 0} (r : Result A E) → P → OnErr r P
any_err (Ok a) p = tt
any_err (Err e) p = p

-- what is there already, put there again, changes nothing
set_same : {X : Type 0} (xs : List X) (i : ℕ) (x : X) → slice_get xs i ≡ Some x → slice_set xs i x ≡ xs
set_same [] i x is = refl
set_same (h ∷ xs) zero x is = let same : h ≡ x = (let z = is in cc) in ap (λ (y : _). y ∷ xs) (sym same)
set_same (h ∷ xs) (suc i) x is = ap (λ (ys : List _). h ∷ ys) (set_same xs i x is)

at_load : (command : Option Command) → phase_in Load command ≡ Load
at_load None = refl
at_load (Some command) = refl

-- an actor whose call has ended is at Load; one that goes on has its call still
phase_after : (state : Actor) (command : Command) (next : Next) → slice_get state.program state.ended ≡ Some command
    → phase_of (Some (actor_after state next)) ≡ (actor_after state next).phase
phase_after state command (Goes phase) some = ap (phase_in phase) some
phase_after state command (Ends answer) some = at_load (slice_get state.program (state.ended + 1))

module _ (c : Configuration) (actor : ℕ) (memory : Bool) (state : Actor) (there : slice_get c.actors actor ≡ Some state) where
  -- an actor without a call changes nothing
  pub idle_step : slice_get state.program state.ended ≡ None → (to : Configuration) → to ≡ record { limit = c.limit; storage = c.storage; actors = slice_set c.actors actor state }
      → IsStepped (step_of c actor memory) to (record { event = None; ended = None })
  idle_step none to is =
      let idle : step_of c actor memory ≡ no_step c = ap (step_as c actor memory) there ∙ ap (step_in c actor memory state) none in
      subst (λ (step : Step). IsStepped step to (record { event = None; ended = None })) (sym idle)
      (is ∙ ap (λ (actors : List Actor). record { limit = c.limit; storage = c.storage; actors = actors }) (set_same c.actors actor state there), refl, refl)

  pub idle_phases : slice_get state.program state.ended ≡ None → (new : Configuration) → phases_at c new actor ≡ None
  idle_phases none new =
      ap (λ (b : Bool). if b then Some (phase_at c actor, phase_at new actor) else None) (ap has_command there ∙ ap is_some none)

  module _ (command : Command) (some : slice_get state.program state.ended ≡ Some command) (m : Storage) (outcome : Given) where
    abbrev after : Configuration
    after = record { limit = c.limit; storage = m; actors = slice_set c.actors actor (actor_after state outcome.next) }

    -- the step of an actor with a call
    pub taken_step : given m outcome ≡ outcome_of c.limit c.storage actor command memory state.phase
        → IsStepped (step_of c actor memory) after (record { event = outcome.event; ended = ended_by actor state command outcome.next })
    taken_step is =
        let taken : step_of c actor memory ≡ step_to c actor state command (given m outcome) =
        ap (step_as c actor memory) there ∙ ap (step_in c actor memory state) some ∙ ap (step_to c actor state command) (sym is) in
        subst (λ (step : Step). IsStepped step after (record { event = outcome.event; ended = ended_by actor state command outcome.next })) (sym taken) (refl, refl, refl)

    pub taken_phases : phases_at c after actor ≡ Some (state.phase, (actor_after state outcome.next).phase)
    taken_phases =
        let before : phase_at c actor ≡ state.phase = ap phase_of there ∙ ap (phase_in state.phase) some in
        let later : phase_at after actor ≡ (actor_after state outcome.next).phase = ap phase_of (get_set c.actors actor state (actor_after state outcome.next) there) ∙ phase_after state command outcome.next some in
        ap (λ (b : Bool). if b then Some (phase_at c actor, phase_at after actor) else None) (ap has_command there ∙ ap is_some some)
        ∙ (λ i. Some (before i, later i))

-- the places that a phase within the limit looks for are places that there may be
within_has_room : (f limit : ℕ) (command : Command) (phase : Phase) → limit ≤ most_places → IsWithin f limit command phase → HasRoom phase
within_has_room f limit command Load most within = tt
within_has_room f limit command (Scout from n segment) most within = (within.0, omega (arith, within.1, most))
within_has_room f limit command (Put from n segment) most within = tt
within_has_room f limit command (Exchange from n) most within = tt
within_has_room f limit command (Raise to) most within = tt
within_has_room f limit command (Begin from n place) most within = tt
within_has_room f limit command (Fill from n place) most within = tt
within_has_room f limit command (Spoil from n place) most within = tt
within_has_room f limit command (Mend place) most within = tt
within_has_room f limit command (FillMended place) most within = tt
within_has_room f limit command (Look place) most within = tt

call_has_room : (f limit : ℕ) (phase : Phase) (command : Option Command) → limit ≤ most_places → IfSome command (λ c. IsWithin f limit c phase) → HasRoom (phase_in phase command)
call_has_room f limit phase None most within = tt
call_has_room f limit phase (Some command) most within = within_has_room f limit command phase most within

actor_has_room : (f limit : ℕ) (actor : Option Actor) → limit ≤ most_places → ((state : Actor) → actor ≡ Some state → IsPlaced f limit state) → HasRoom (phase_of actor)
actor_has_room f limit None most placed = tt
actor_has_room f limit (Some state) most placed = call_has_room f limit state.phase (slice_get state.program state.ended) most (placed state refl)

chosen_has_room : (b : Bool) (old new : Phase) → HasRoom new → IfSome (if b then Some (old, new) else None) (λ (p : Phase × Phase). HasRoom p.1)
chosen_has_room true old new room = room
chosen_has_room false old new room = tt

phases_have_room : (c new : Configuration) (actor : ℕ) → IsInLimit new → IfSome (phases_at c new actor) (λ (p : Phase × Phase). HasRoom p.1)
phases_have_room c new actor within =
    chosen_has_room _ (phase_at c actor) (phase_at new actor) (actor_has_room new.storage.layout new.limit (slice_get new.actors actor) within.0.1 (λ state is. at_place (IsPlaced new.storage.layout new.limit) new.actors actor state within.2 is))

pub steps_have_room : {S E : Type 0} (r : Result S E) (of : S → Option (Phase × Phase)) (c new : Configuration) (actor : ℕ) → IfOk r (λ step. of step ≡ phases_at c new actor) → IsInLimit new
    → IfOk r (λ step. IfSome (of step) (λ (p : Phase × Phase). HasRoom p.1))
steps_have_room (Ok step) of c new actor is within = subst (λ (phases : Option (Phase × Phase)). IfSome phases (λ (p : Phase × Phase). HasRoom p.1)) (sym is) (phases_have_room c new actor within)
steps_have_room (Err e) of c new actor is within = tt
