-- The trace of a play: for each item, the step that it took, and what that step found or did.
use Rattle.std.specs.Prelude.{◌≡◌, ℕ, ◌+◌, List, [], ◌∷◌, take, Option, Some, None, slice_get}
use Rattle.std.specs.Option.{option_map}
use Rattle.book_core.specs.declared.events.Event.{Event}
use Rattle.book_core.specs.declared.events.Reply.{Reply}
use Rattle.book_core.specs.declared.events.Reply.TheVariants as replies
use Rattle.book_core.specs.declared.commands.Command.{Command}
use Rattle.book_core.specs.declared.commands.Item.{Item}
use Rattle.step_core.specs.declared.machine.phase.Actor.{Actor}
use Rattle.step_core.specs.declared.machine.phase.Phase.{Phase}
use Rattle.step_core.specs.declared.machine.phase.Phase.TheVariants.{Load, Scout, Put, Exchange, Raise, Begin, Fill, Spoil, Mend, FillMended, Look}
use Rattle.step_core.specs.declared.machine.trace.Finding.{Finding}
use Rattle.step_core.specs.declared.machine.trace.Finding.TheVariants as findings
use Rattle.step_core.specs.declared.machine.trace.TracedStep.{TracedStep}
use Rattle.step_core.specs.declared.machine.trace.TracedItem.{TracedItem}
use Rattle.step_core.specs.machine.Step.{Configuration, Step, step_of, first_configuration}
use Rattle.step_core.specs.machine.Play.{play_of}
use Rattle.step_core.specs.machine.Work.{phase_at}

-- ---- What a step found or did

-- a step that is done by its event found or did this, by its phase
abbrev pub finding_of_done : Phase → Finding
finding_of_done Load = findings.Nothing
finding_of_done (Scout from n segment) = findings.Nothing
finding_of_done (Put from n segment) = findings.Nothing
finding_of_done (Exchange from n) = findings.Nothing
finding_of_done (Raise to) = findings.Nothing
finding_of_done (Begin from n place) = findings.Nothing
finding_of_done (Fill from n place) = findings.Filled
finding_of_done (Spoil from n place) = findings.Broken
finding_of_done (Mend place) = findings.Taken
finding_of_done (FillMended place) = findings.Filled
finding_of_done (Look place) = findings.Nothing

-- a step that is an event, by the reply
abbrev pub finding_of_reply : Phase → Reply → Finding
finding_of_reply phase (replies.Run from n) = findings.Won
finding_of_reply phase (replies.Enough size) = findings.Enough
finding_of_reply phase replies.Done = finding_of_done phase
finding_of_reply phase (replies.Value value) = findings.Filled
finding_of_reply phase replies.Pending = findings.Pending
finding_of_reply phase replies.Broken = findings.Broken
finding_of_reply phase (replies.OutOfRange size) = findings.OutOfRange
finding_of_reply phase (replies.Size size) = findings.Loaded
finding_of_reply phase (replies.Full size) = findings.Full
finding_of_reply phase replies.NoMemory = findings.Refused

-- a Scout, by the phase after it: it goes on to Put if the segment is not installed
abbrev pub finding_of_scout : Phase → Finding
finding_of_scout (Put from n segment) = findings.Missing
finding_of_scout Load = findings.Installed
finding_of_scout (Scout from n segment) = findings.Installed
finding_of_scout (Exchange from n) = findings.Installed
finding_of_scout (Raise to) = findings.Installed
finding_of_scout (Begin from n place) = findings.Installed
finding_of_scout (Fill from n place) = findings.Installed
finding_of_scout (Spoil from n place) = findings.Installed
finding_of_scout (Mend place) = findings.Installed
finding_of_scout (FillMended place) = findings.Installed
finding_of_scout (Look place) = findings.Installed

-- a Begin, by the phase after it: it stays where it is if the slot is not empty
abbrev pub finding_of_begin : Phase → Finding
finding_of_begin (Begin from n place) = findings.Nothing
finding_of_begin Load = findings.Taken
finding_of_begin (Scout from n segment) = findings.Taken
finding_of_begin (Put from n segment) = findings.Taken
finding_of_begin (Exchange from n) = findings.Taken
finding_of_begin (Raise to) = findings.Taken
finding_of_begin (Fill from n place) = findings.Taken
finding_of_begin (Spoil from n place) = findings.Taken
finding_of_begin (Mend place) = findings.Taken
finding_of_begin (FillMended place) = findings.Taken
finding_of_begin (Look place) = findings.Taken

-- a step that is no event, by its phase and the one after it; an exchange without an event is a lost one
abbrev pub finding_without_event : Phase → Phase → Finding
finding_without_event Load after = findings.Loaded
finding_without_event (Scout from n segment) after = finding_of_scout after
finding_without_event (Put from n segment) after = findings.Installed
finding_without_event (Exchange from n) after = findings.Lost
finding_without_event (Raise to) after = findings.Nothing
finding_without_event (Begin from n place) after = finding_of_begin after
finding_without_event (Fill from n place) after = findings.Nothing
finding_without_event (Spoil from n place) after = findings.Nothing
finding_without_event (Mend place) after = findings.Nothing
finding_without_event (FillMended place) after = findings.Nothing
finding_without_event (Look place) after = findings.Nothing

-- what a step found or did, by its phase, its event with the reply, and the phase after it
abbrev pub finding_of : Phase → Option (Event × Reply) → Phase → Finding
finding_of before None after = finding_without_event before after
finding_of before (Some row) after = finding_of_reply before row.1

-- ---- The call that takes the step

-- the call that an actor has under way or to begin: its number among the actor's calls, from 1, and its command
abbrev pub call_in : ℕ → Option Command → Option (ℕ × Command)
call_in ended None = None
call_in ended (Some command) = Some (ended + 1, command)

abbrev pub call_of : Option Actor → Option (ℕ × Command)
call_of None = None
call_of (Some state) = call_in state.ended (slice_get state.program state.ended)

abbrev pub call_at : Configuration → ℕ → Option (ℕ × Command)
call_at c actor = call_of (slice_get c.actors actor)

-- ---- Traces

-- a step of this call, from a phase to the one after it
abbrev pub traced_step : Phase → Option (Event × Reply) → Phase → ℕ × Command → TracedStep
traced_step before event after call = record {
  number = call.0;
  command = call.1;
  phase = before;
  finding = finding_of before event after;
  event = event;
}

-- an actor's step as the trace shows it: with its call, unless none is left, and the size after it
abbrev pub traced_by : Configuration → ℕ → Step → TracedItem
traced_by c actor step = record {
  actor = actor;
  step = option_map (traced_step (phase_at c actor) step.event (phase_at step.to actor)) (call_at c actor);
  size = step.to.storage.size;
}

-- the step of an item
abbrev pub traced_item : Configuration → Item → TracedItem
traced_item c item = traced_by c item.actor (step_of c item.actor item.memory)

-- the steps of items, each from where those before it have led
abbrev pub trace_from : Configuration → List Item → List TracedItem
trace_from c [] = []
trace_from c (item ∷ items) = traced_item c item ∷ trace_from (step_of c item.actor item.memory).to items

-- the trace of a play
abbrev pub trace_of : ℕ → ℕ → List (List Command) → List Item → List TracedItem
trace_of f limit programs items = trace_from (first_configuration f limit programs) items

-- A trace has a row for each item of the schedule, in order: the step that the item takes in the play of those
-- before it.
abbrev pub EveryItemIsTraced : Type 0
EveryItemIsTraced =
    (f limit : ℕ) (programs : List (List Command)) (items : List Item) (i : ℕ)
    → slice_get (trace_of f limit programs items) i
    ≡ option_map (traced_item (play_of f limit programs (take i items)).at) (slice_get items i)
