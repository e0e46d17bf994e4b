-- What the program keeps next to a play, to count what its calls take.
use Rattle.std.specs.Prelude.{ℕ, ◌+◌, ◌<◌, ◌≤◌, Bool, true, false, List, [], ◌∷◌, ◌++◌, if◌then◌else◌, map, All, Option, Some, None, slice_get, slice_set, unwrap_or, refl}
use Rattle.std.specs.Coded.{Coded, code_by, coded×, coded_list}
use Rattle.seg_core.specs.Segment.{most_places}
use Rattle.book_core.specs.declared.commands.Ended.{Ended}
use Rattle.book_core.specs.declared.commands.Item.{Item}
use Rattle.step_core.specs.declared.machine.phase.Phase.{Phase}
use Rattle.step_core.specs.declared.machine.phase.Phase.TheVariants.{Load, Scout, Put, Exchange, Raise, Begin, Fill, Spoil, Mend, FillMended, Look}
use Rattle.step_core.specs.declared.machine.counts.Tally.{Tally}
use Rattle.book_core.specs.declared.commands.Work.{Work}
use Rattle.step_core.specs.contracts.machine.counts.Tally as tally
use Rattle.book_core.specs.contracts.commands.Work as work
use Rattle.step_core.specs.declared.programs.Played.{Played}
use Rattle.step_core.specs.machine.Owners.{played_by_owners}
use Rattle.step_core.specs.machine.Step.{Configuration, Step, step_of}
use Rattle.step_core.specs.machine.Play.{Play, play_code, with_step}
use Rattle.step_core.specs.machine.Work.{Count, Counted, no_tally, tally_after, has_call, phase_at, work_in}

-- a play so far, with each actor's tally, and what the ended calls took
pub record Tallied : Type 0 where
  pub play : Play
  pub tallies : List Tally
  pub work : List Work

-- it is stored as its fields
abbrev pub tallied_code : Coded Tallied
tallied_code =
    code_by (Play × (List Tally × List Work))
    (coded× play_code (coded× (coded_list tally.the_row.coded) (coded_list work.the_row.coded)))
    (λ t. (t.play, (t.tallies, t.work)))
    (λ p. record { play = p.0; tallies = p.1.0; work = p.1.1 })
    (λ _. refl)

-- the phases of an actor's call before a step of it and after, if it has a call
abbrev pub phases_at : Configuration → Configuration → ℕ → Option (Phase × Phase)
phases_at old new actor = if has_call old actor then Some (phase_at old actor, phase_at new actor) else None

-- what an ended call took with this tally
abbrev pub work_by : Ended → Tally → Work
work_by ended tally = record {
  actor = ended.actor;
  number = ended.number;
  lost = tally.lost;
  steps = tally.steps;
  segments = tally.segments;
}

-- the call goes on with this tally, or it has ended with it
abbrev pub with_tally : Tallied → ℕ → Play → Tally → Option Ended → Tallied
with_tally t actor play tally None = record { play = play; tallies = slice_set t.tallies actor tally; work = t.work }
with_tally t actor play tally (Some ended) = record {
  play = play;
  tallies = slice_set t.tallies actor no_tally;
  work = t.work ++ work_by ended tally ∷ [];
}

-- the tally of the actor's call after one step
abbrev pub next_tally : Tallied → ℕ → Step → Tally
next_tally t actor step =
    tally_after t.play.at.storage.layout (unwrap_or (slice_get t.tallies actor) no_tally) (phase_at t.play.at actor)
    (phase_at step.to actor)

-- with one step
abbrev pub tally_step : Tallied → ℕ → Step → Bool → Tallied
tally_step t actor step false = record { play = with_step t.play step; tallies = t.tallies; work = t.work }
tally_step t actor step true = with_tally t actor (with_step t.play step) (next_tally t actor step) step.ended

-- each item is one step of its actor
abbrev pub tally_items : Tallied → List Item → Tallied
tally_items t [] = t
tally_items t (item ∷ items) =
    tally_items (tally_step t item.actor (step_of t.play.at item.actor item.memory)
    (has_call t.play.at item.actor)) items

-- a counted play as the program keeps it
abbrev pub tallied : Counted → Tallied
tallied k = record {
  play = k.play;
  tallies = map (λ (count : Count). count.tally) k.counts;
  work = map work_in k.calls;
}

-- what a counted play shows if its runs follow each other
abbrev pub shown_by_owners : Tallied → Played
shown_by_owners t = played_by_owners t.play t.work

-- no tally counts more than these steps
abbrev pub AreWithin : ℕ → List Tally → Type 0
AreWithin most tallies = All (λ (tally : Tally). (tally.lost ≤ tally.steps) × (tally.steps ≤ most)) tallies

-- the places that a phase looks for are places that there may be
abbrev pub HasRoom : Phase → Type 0
HasRoom (Scout from n segment) = (0 < n) × (from + n ≤ most_places)
HasRoom Load = Unit {0}
HasRoom (Put from n segment) = Unit {0}
HasRoom (Exchange from n) = Unit {0}
HasRoom (Raise to) = Unit {0}
HasRoom (Begin from n place) = Unit {0}
HasRoom (Fill from n place) = Unit {0}
HasRoom (Spoil from n place) = Unit {0}
HasRoom (Mend place) = Unit {0}
HasRoom (FillMended place) = Unit {0}
HasRoom (Look place) = Unit {0}
