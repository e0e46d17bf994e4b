-- The machine of atomic steps: its configurations, and the table of its steps.
use Rattle.std.specs.Prelude.{◌≡◌, ℕ, ◌+◌, ◌-◌, nat_le, nat_lt, ◌==◌, Bool, false, if◌then◌else◌, List, map, Option, Some, None, slice_get, slice_set, refl}
use Rattle.std.specs.FinMap.{get, insert, empty}
use Rattle.std.specs.FinSet as set
use Rattle.seg_core.specs.Segment.{segment_end, segment_of}
use Rattle.book_core.specs.declared.events.Event.{Event}
use Rattle.book_core.specs.declared.events.Event.TheVariants as events
use Rattle.book_core.specs.declared.events.Reply.{Reply}
use Rattle.book_core.specs.declared.events.Reply.TheVariants as replies
use Rattle.book_core.specs.declared.commands.Command.{Command}
use Rattle.book_core.specs.declared.commands.Command.TheVariants as commands
use Rattle.book_core.specs.declared.commands.Answer.{Answer}
use Rattle.book_core.specs.declared.commands.Answer.TheVariants as answers
use Rattle.book_core.specs.declared.commands.Ended.{Ended}
use Rattle.std.specs.Coded.{Coded, code_by, coded×, coded_ℕ, coded_list}
use Rattle.step_core.specs.contracts.machine.phase.Actor as actor
use Rattle.step_core.specs.declared.machine.Stepped.{Stepped}
use Rattle.step_core.specs.machine.Storage.{Storage, storage_code}
use Rattle.step_core.specs.declared.machine.phase.CellSlot.{CellSlot}
use Rattle.step_core.specs.declared.machine.phase.CellSlot.TheVariants.{Busy, Filled, Broken}
use Rattle.step_core.specs.declared.machine.phase.Phase.{Phase}
use Rattle.step_core.specs.declared.machine.phase.Phase.TheVariants.{Load, Scout, Put, Exchange, Raise, Begin, Fill, Spoil, Mend, FillMended, Look}
use Rattle.step_core.specs.declared.machine.phase.Next.{Next}
use Rattle.step_core.specs.declared.machine.phase.Next.TheVariants.{Goes, Ends}
use Rattle.step_core.specs.declared.machine.phase.Actor.{Actor}

-- a configuration of the machine
pub record Configuration : Type 0 where
  pub limit : ℕ
  pub storage : Storage
  pub actors : List Actor

-- it is stored as its fields
abbrev pub configuration_code : Coded Configuration
configuration_code =
    code_by (ℕ × (Storage × List Actor)) (coded× coded_ℕ (coded× storage_code (coded_list actor.the_row.coded)))
    (λ c. (c.limit, (c.storage, c.actors)))
    (λ p. record { limit = p.0; storage = p.1.0; actors = p.1.1 })
    (λ _. refl)

-- what a step of an actor leaves and gives: the shared storage, at most one event with its reply, and what
-- follows
pub record Outcome : Type 0 where
  pub storage : Storage
  pub event : Option (Event × Reply)
  pub next : Next

-- the step changes nothing that is storage, and is no event
abbrev pub goes_on : Storage → Phase → Outcome
goes_on m phase = record { storage = m; event = None; next = Goes phase }

-- the step is an event that changes nothing that is storage, and ends the call
abbrev pub ends : Storage → Event → Reply → Answer → Outcome
ends m happens reply answer = record { storage = m; event = Some (happens, reply); next = Ends answer }

-- the size is this one now
abbrev pub with_size : Storage → ℕ → Storage
with_size m to = record { layout = m.layout; size = to; installed = m.installed; slots = m.slots }

-- the segment is installed now
abbrev pub with_segment : Storage → ℕ → Storage
with_segment m segment = record {
  layout = m.layout;
  size = m.size;
  installed = set.insert m.installed segment;
  slots = m.slots;
}

-- the slot of the place holds this now
abbrev pub with_slot : Storage → ℕ → CellSlot → Storage
with_slot m place slot = record {
  layout = m.layout;
  size = m.size;
  installed = m.installed;
  slots = insert m.slots place slot;
}

-- ---- Load

-- a growth by n goes on to the segments of the places from the size on
abbrev pub load_growth : ℕ → Storage → ℕ → ℕ → Outcome
load_growth limit m actor n =
    if n == 0
    then ends m (events.Claim actor 0) (replies.Run m.size 0) (answers.Run m.size 0)
    else if nat_le (m.size + n) limit
    then goes_on m (Scout m.size n (segment_of m.layout m.size))
    else ends m (events.RefusedFull actor n) (replies.Full m.size) (answers.Full m.size)

-- a growth to at least a size
abbrev pub load_at_least : ℕ → Storage → ℕ → ℕ → Outcome
load_at_least limit m actor to =
    if nat_le to m.size
    then ends m (events.Raise actor to) (replies.Enough m.size) (answers.Enough m.size)
    else if nat_le to limit
    then goes_on m (Scout m.size (to - m.size) (segment_of m.layout m.size))
    else ends m (events.RefusedFull actor (to - m.size)) (replies.Full m.size) (answers.Full m.size)

-- a call of one place goes on to a phase if the place is claimed
abbrev pub load_place : Storage → ℕ → ℕ → Phase → Outcome
load_place m actor place phase =
    if nat_lt place m.size
    then goes_on m phase
    else ends m (events.Look actor place) (replies.OutOfRange m.size) (answers.OutOfRange m.size)

abbrev pub load : ℕ → Storage → ℕ → Command → Outcome
load limit m actor (commands.Push value) = load_growth limit m actor 1
load limit m actor (commands.Grow n value) = load_growth limit m actor n
load limit m actor (commands.AtLeast to value) = load_at_least limit m actor to
load limit m actor (commands.Fail n value at) = load_growth limit m actor n
load limit m actor (commands.Mend place value) = load_place m actor place (Mend place)
load limit m actor (commands.Read place) = load_place m actor place (Look place)
load limit m actor commands.Size = ends m (events.Size actor) (replies.Size m.size) (answers.Size m.size)

-- ---- Scout and Put

-- the phase that claims the places
abbrev pub claiming : Command → ℕ → ℕ → Phase
claiming (commands.Push value) from n = Exchange from n
claiming (commands.Grow m value) from n = Exchange from n
claiming (commands.AtLeast to value) from n = Raise to
claiming (commands.Fail m value at) from n = Exchange from n
claiming (commands.Mend place value) from n = Exchange from n
claiming (commands.Read place) from n = Exchange from n
claiming commands.Size from n = Exchange from n

-- the next segment, or the claim after the last
abbrev pub after_segment : ℕ → Command → ℕ → ℕ → ℕ → Phase
after_segment f command from n segment =
    if nat_lt (segment_end f segment) (from + n) then Scout from n (segment + 1) else claiming command from n

abbrev pub scout : Storage → Command → ℕ → ℕ → ℕ → Outcome
scout m command from n segment =
    if set.contains m.installed segment
    then goes_on m (after_segment m.layout command from n segment)
    else goes_on m (Put from n segment)

-- memory is asked for before anything else is looked at
abbrev pub put : Storage → ℕ → Command → Bool → ℕ → ℕ → ℕ → Outcome
put m actor command memory from n segment =
    if memory
    then goes_on (with_segment m segment) (after_segment m.layout command from n segment)
    else ends m (events.RefusedMemory actor) replies.NoMemory answers.NoMemory

-- ---- Exchange and Raise

abbrev pub exchange : ℕ → Storage → ℕ → ℕ → ℕ → Outcome
exchange limit m actor from n =
    if m.size == from
    then record {
      storage = with_size m (from + n);
      event = Some (events.Claim actor n, replies.Run from n);
      next = Goes (Begin from n from);
    }
    else if nat_le (m.size + n) limit
    -- a lost exchange
    then goes_on m (Scout m.size n (segment_of m.layout m.size))
    else ends m (events.RefusedFull actor n) (replies.Full m.size) (answers.Full m.size)

abbrev pub raise : Storage → ℕ → ℕ → Outcome
raise m actor to =
    if nat_le to m.size
    then ends m (events.Raise actor to) (replies.Enough m.size) (answers.Enough m.size)
    else record {
      storage = with_size m to;
      event = Some (events.Raise actor to, replies.Run m.size (to - m.size));
      next = Goes (Begin m.size (to - m.size) m.size);
    }

-- ---- Begin, Fill and Spoil

-- the construction at this place of the run is refused
abbrev pub is_refused : Command → ℕ → ℕ → Bool
is_refused (commands.Push value) from place = false
is_refused (commands.Grow n value) from place = false
is_refused (commands.AtLeast to value) from place = false
is_refused (commands.Fail n value at) from place = nat_le (from + at) place
is_refused (commands.Mend at value) from place = false
is_refused (commands.Read at) from place = false
is_refused commands.Size from place = false

-- what a growth or a mend constructs
abbrev pub value_of : Command → ℕ
value_of (commands.Push value) = value
value_of (commands.Grow n value) = value
value_of (commands.AtLeast to value) = value
value_of (commands.Fail n value at) = value
value_of (commands.Mend place value) = value
value_of (commands.Read place) = 0
value_of commands.Size = 0

-- how a growth ends that won these places
abbrev pub answer_of_run : Command → ℕ → ℕ → Answer
answer_of_run (commands.Push value) from n = answers.At from
answer_of_run (commands.Grow m value) from n = answers.Run from n
answer_of_run (commands.AtLeast to value) from n = answers.Run from n
answer_of_run (commands.Fail m value at) from n = answers.BrokenRun from n at
answer_of_run (commands.Mend place value) from n = answers.Run from n
answer_of_run (commands.Read place) from n = answers.Run from n
answer_of_run commands.Size from n = answers.Run from n

-- an empty slot is taken; at one that isn't empty nothing changes
abbrev pub begin_at : Storage → ℕ → Command → ℕ → ℕ → ℕ → Option CellSlot → Outcome
begin_at m actor command from n place None =
    goes_on (with_slot m place (Busy actor))
    (if is_refused command from place then Spoil from n place else Fill from n place)
begin_at m actor command from n place (Some slot) = goes_on m (Begin from n place)

-- the next place of the run, or the end of the call after the last
abbrev pub after_place : Command → ℕ → ℕ → ℕ → Next
after_place command from n place =
    if nat_lt (place + 1) (from + n) then Goes (Begin from n (place + 1)) else Ends (answer_of_run command from n)

abbrev pub fill : Storage → ℕ → Command → ℕ → ℕ → ℕ → Outcome
fill m actor command from n place = record {
  storage = with_slot m place (Filled (value_of command));
  event = Some (events.Finish actor place (value_of command), replies.Done);
  next = after_place command from n place;
}

abbrev pub spoil : Storage → ℕ → Command → ℕ → ℕ → ℕ → Outcome
spoil m actor command from n place = record {
  storage = with_slot m place Broken;
  event = Some (events.Break actor place, replies.Done);
  next = after_place command from n place;
}

-- ---- Look

abbrev pub look_at : Storage → ℕ → ℕ → Option CellSlot → Outcome
look_at m actor place None = ends m (events.Look actor place) replies.Pending answers.Pending
look_at m actor place (Some (Busy owner)) = ends m (events.Look actor place) replies.Pending answers.Pending
look_at m actor place (Some (Filled value)) =
    ends m (events.Look actor place) (replies.Value value) (answers.Value value)
look_at m actor place (Some Broken) = ends m (events.Look actor place) replies.Broken answers.Broken

-- ---- Mend

-- a broken slot is taken; at any other the call ends as a read of it does
abbrev pub mend_at : Storage → ℕ → ℕ → Option CellSlot → Outcome
mend_at m actor place None = look_at m actor place None
mend_at m actor place (Some (Busy owner)) = look_at m actor place (Some (Busy owner))
mend_at m actor place (Some (Filled value)) = look_at m actor place (Some (Filled value))
mend_at m actor place (Some Broken) = record {
  storage = with_slot m place (Busy actor);
  event = Some (events.Mend actor place, replies.Done);
  next = Goes (FillMended place);
}

-- the mended slot is filled, and the call ends
abbrev pub fill_mended : Storage → ℕ → Command → ℕ → Outcome
fill_mended m actor command place = record {
  storage = with_slot m place (Filled (value_of command));
  event = Some (events.Finish actor place (value_of command), replies.Done);
  next = Ends (answers.At place);
}

-- The table of steps.
abbrev pub outcome_of : ℕ → Storage → ℕ → Command → Bool → Phase → Outcome
outcome_of limit m actor command memory Load = load limit m actor command
outcome_of limit m actor command memory (Scout from n segment) = scout m command from n segment
outcome_of limit m actor command memory (Put from n segment) = put m actor command memory from n segment
outcome_of limit m actor command memory (Exchange from n) = exchange limit m actor from n
outcome_of limit m actor command memory (Raise to) = raise m actor to
outcome_of limit m actor command memory (Begin from n place) = begin_at m actor command from n place (get m.slots place)
outcome_of limit m actor command memory (Fill from n place) = fill m actor command from n place
outcome_of limit m actor command memory (Spoil from n place) = spoil m actor command from n place
outcome_of limit m actor command memory (Mend place) = mend_at m actor place (get m.slots place)
outcome_of limit m actor command memory (FillMended place) = fill_mended m actor command place
outcome_of limit m actor command memory (Look place) = look_at m actor place (get m.slots place)

-- ---- What follows a step

-- the actor afterwards: in the next phase, or at Load of its next call
abbrev pub actor_after : Actor → Next → Actor
actor_after state (Goes phase) = record { program = state.program; ended = state.ended; phase = phase }
actor_after state (Ends answer) = record { program = state.program; ended = state.ended + 1; phase = Load }

-- the call that ended, if one did
abbrev pub ended_by : ℕ → Actor → Command → Next → Option Ended
ended_by actor state command (Goes phase) = None
ended_by actor state command (Ends answer) =
    Some (record { actor = actor; number = state.ended + 1; command = command; answer = answer })

-- ---- One step of the machine

-- what a step leaves and gives: the configuration, at most one event with its reply, at most one ended call
pub record Step : Type 0 where
  pub to : Configuration
  pub event : Option (Event × Reply)
  pub ended : Option Ended

-- a step that changes nothing
abbrev pub no_step : Configuration → Step
no_step c = record { to = c; event = None; ended = None }

-- the actor is in this state now
abbrev with_actor : Configuration → Storage → ℕ → Actor → Configuration
with_actor c m actor state = record { limit = c.limit; storage = m; actors = slice_set c.actors actor state }

-- the actor goes on, or its call ends and it comes to its next one
abbrev pub step_to : Configuration → ℕ → Actor → Command → Outcome → Step
step_to c actor state command outcome = record {
  to = with_actor c outcome.storage actor (actor_after state outcome.next);
  event = outcome.event;
  ended = ended_by actor state command outcome.next;
}

-- the step of an actor with this call under way or to begin; with none left nothing changes
abbrev pub step_in : Configuration → ℕ → Bool → Actor → Option Command → Step
step_in c actor memory state None = no_step c
step_in c actor memory state (Some command) =
    step_to c actor state command (outcome_of c.limit c.storage actor command memory state.phase)

abbrev pub step_as : Configuration → ℕ → Bool → Option Actor → Step
step_as c actor memory None = no_step c
step_as c actor memory (Some state) = step_in c actor memory state (slice_get state.program state.ended)

-- one step of an actor, whose memory is granted or refused
abbrev pub step_of : Configuration → ℕ → Bool → Step
step_of c actor memory = step_as c actor memory (slice_get c.actors actor)

-- nothing is claimed, installed or filled in segments of this layout, and each actor is at its first call
abbrev pub first_configuration : ℕ → ℕ → List (List Command) → Configuration
first_configuration f limit programs = record {
  limit = limit;
  storage = record { layout = f; size = 0; installed = set.empty; slots = empty };
  actors = map (λ program. record { program = program; ended = 0; phase = Load }) programs;
}

-- ---- A step as the program gives it

-- the step leads to this configuration, with this event and this ended call
abbrev pub IsStepped : Step → Configuration → Stepped → Type 0
IsStepped step to stepped = (to ≡ step.to) × (stepped.event ≡ step.event) × (stepped.ended ≡ step.ended)
