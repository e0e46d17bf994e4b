-- The records of calls: the events with replies that make up a call, and how it ends; and that each actor's
-- events are its calls'.
use Rattle.std.specs.Prelude.{◌≡◌, ◌≢◌, ℕ, ◌+◌, ◌-◌, ◌⊎◌, List, [], ◌∷◌, ◌++◌, length, map, Option, Some, None, IfSome, unwrap_or, slice_get}
use Rattle.book_core.specs.declared.events.Event.{Event}
use Rattle.book_core.specs.declared.events.Event.TheVariants.{Claim, Raise, Finish, Mend, Look, Size, RefusedFull, RefusedMemory}
use Rattle.book_core.specs.declared.events.Reply.{Reply}
use Rattle.book_core.specs.declared.events.Reply.TheVariants as replies
use Rattle.book_core.specs.declared.commands.Command.{Command}
use Rattle.book_core.specs.declared.commands.Command.TheVariants as commands
use Rattle.book_core.specs.declared.commands.Answer.{Answer}
use Rattle.book_core.specs.declared.commands.Answer.TheVariants as answers
use Rattle.book_core.specs.declared.commands.Ended.{Ended}
use Rattle.book_core.specs.declared.commands.Item.{Item}
use Rattle.seg_core.specs.Segment.{IsLayout, IsLimit}
use Rattle.book_core.specs.Commands.{AreSound, calls_of}
use Rattle.book_core.specs.History.{events_of}
use Rattle.book_core.specs.Events.{finishes, breaks}
use Rattle.step_core.specs.declared.machine.phase.Phase.{Phase}
use Rattle.step_core.specs.declared.machine.phase.Phase.TheVariants as phases
use Rattle.step_core.specs.machine.Play.{Play, play_of}

-- The claim won n places from one on; those before made were filled in ascending order, and then the others
-- broken.
abbrev run_record : Event → ℕ → ℕ → ℕ → ℕ → ℕ → List (Event × Reply)
run_record claim actor from n value made =
    (claim, replies.Run from n) ∷ map
    (λ event. (event, replies.Done)) (finishes actor from made value ++ breaks actor (from + made) (n - made))

-- a growth that won its run, with the answer that its first place gives
pub record IsGrown (claim : Event) (actor n value made : ℕ) (answer_at : ℕ → Answer) (es : List (Event × Reply))
    (answer : Answer) : Type 0 where
  pub from : ℕ
  pub events : es ≡ run_record claim actor from n value made
  pub answered : answer ≡ answer_at from

-- a growth up to a size, which won the places that it found missing
pub record IsRaised (actor to value : ℕ) (es : List (Event × Reply)) (answer : Answer) : Type 0 where
  pub n : ℕ
  pub grown : IsGrown (Raise actor to) actor n value n (λ from. answers.Run from n) es answer

-- a growth that was past the limit, by the places that the size leaves
pub record IsFull (actor : ℕ) (n_at : ℕ → ℕ) (es : List (Event × Reply)) (answer : Answer) : Type 0 where
  pub size : ℕ
  pub events : es ≡ (RefusedFull actor (n_at size), replies.Full size) ∷ []
  pub answered : answer ≡ answers.Full size

-- a growth that was refused memory for a segment
pub record IsOutOfMemory (actor : ℕ) (es : List (Event × Reply)) (answer : Answer) : Type 0 where
  pub events : es ≡ (RefusedMemory actor, replies.NoMemory) ∷ []
  pub answered : answer ≡ answers.NoMemory

-- a growth to a size that the vector had
pub record IsEnough (actor to : ℕ) (es : List (Event × Reply)) (answer : Answer) : Type 0 where
  pub size : ℕ
  pub events : es ≡ (Raise actor to, replies.Enough size) ∷ []
  pub answered : answer ≡ answers.Enough size

-- how a read ends whose look has this reply: the answer of the reply's name and number
abbrev pub answer_to_look : Reply → Option Answer
answer_to_look (replies.Run from n) = None
answer_to_look (replies.Enough size) = None
answer_to_look replies.Done = None
answer_to_look (replies.Value value) = Some (answers.Value value)
answer_to_look replies.Pending = Some answers.Pending
answer_to_look replies.Broken = Some answers.Broken
answer_to_look (replies.OutOfRange size) = Some (answers.OutOfRange size)
answer_to_look (replies.Size size) = None
answer_to_look (replies.Full size) = None
answer_to_look replies.NoMemory = None

-- a read of a place
pub record IsLook (actor place : ℕ) (es : List (Event × Reply)) (answer : Answer) : Type 0 where
  pub reply : Reply
  pub events : es ≡ (Look actor place, reply) ∷ []
  pub answered : answer_to_look reply ≡ Some answer

-- how a mend ends whose look has this reply: as a read does, of a place that isn't broken
abbrev pub answer_to_mend : Reply → Option Answer
answer_to_mend (replies.Run from n) = None
answer_to_mend (replies.Enough size) = None
answer_to_mend replies.Done = None
answer_to_mend (replies.Value value) = Some (answers.Value value)
answer_to_mend replies.Pending = Some answers.Pending
answer_to_mend replies.Broken = None
answer_to_mend (replies.OutOfRange size) = Some (answers.OutOfRange size)
answer_to_mend (replies.Size size) = None
answer_to_mend (replies.Full size) = None
answer_to_mend replies.NoMemory = None

-- a mend that found no broken place
pub record IsUnmended (actor place : ℕ) (es : List (Event × Reply)) (answer : Answer) : Type 0 where
  pub reply : Reply
  pub events : es ≡ (Look actor place, reply) ∷ []
  pub answered : answer_to_mend reply ≡ Some answer

-- a broken place was mended, and filled with this value
pub record IsMended (actor place value : ℕ) (es : List (Event × Reply)) (answer : Answer) : Type 0 where
  pub events : es ≡ (Mend actor place, replies.Done) ∷ (Finish actor place value, replies.Done) ∷ []
  pub answered : answer ≡ answers.At place

-- a read of the size
pub record IsSize (actor : ℕ) (es : List (Event × Reply)) (answer : Answer) : Type 0 where
  pub size : ℕ
  pub events : es ≡ (Size actor, replies.Size size) ∷ []
  pub answered : answer ≡ answers.Size size

-- The record of an actor's call of a command: its events with their replies, in their order, and its answer.
abbrev pub IsRecord : ℕ → Command → List (Event × Reply) → Answer → Type 0
IsRecord actor (commands.Push value) es answer =
    IsGrown (Claim actor 1) actor 1 value 1 (λ from. answers.At from) es answer
    ⊎ (IsFull actor (λ size. 1) es answer ⊎ IsOutOfMemory actor es answer)
IsRecord actor (commands.Grow n value) es answer =
    IsGrown (Claim actor n) actor n value n (λ from. answers.Run from n) es answer
    ⊎ (IsFull actor (λ size. n) es answer ⊎ IsOutOfMemory actor es answer)
IsRecord actor (commands.Fail n value at) es answer =
    IsGrown (Claim actor n) actor n value at (λ from. answers.BrokenRun from n at) es answer
    ⊎ (IsFull actor (λ size. n) es answer ⊎ IsOutOfMemory actor es answer)
IsRecord actor (commands.AtLeast to value) es answer =
    IsRaised actor to value es answer
    ⊎ (IsEnough actor to es answer ⊎ (IsFull actor (λ size. to - size) es answer ⊎ IsOutOfMemory actor es answer))
IsRecord actor (commands.Mend place value) es answer =
    IsMended actor place value es answer ⊎ IsUnmended actor place es answer
IsRecord actor (commands.Read place) es answer = IsLook actor place es answer
IsRecord actor commands.Size es answer = IsSize actor es answer

-- a call of an actor that ended is the one of this number in its program, counted from 0, and these events
-- are its record
pub record IsCall (actor : ℕ) (program : List Command) (number : ℕ) (ended : Ended)
    (es : List (Event × Reply)) : Type 0 where
  pub command : Command
  pub there : slice_get program number ≡ Some command
  pub is : ended ≡ record { actor = actor; number = number + 1; command = command; answer = ended.answer }
  pub recorded : IsRecord actor command es ended.answer

-- the ended calls of an actor are those of its program from a number on, in order, and the events are their
-- records
abbrev pub AreCalls : ℕ → List Command → ℕ → List Ended → List (Event × Reply) → Type 0
AreCalls actor program number [] es = es ≡ []
AreCalls actor program number (ended ∷ others) es =
    (first : List (Event × Reply)) × (rest : List (Event × Reply)) × (es ≡ first ++ rest)
    × IsCall actor program number ended first × AreCalls actor program (number + 1) others rest

-- the events are a proper prefix of a record of the command: some are left to come
pub record IsBegun (actor : ℕ) (command : Command) (es : List (Event × Reply)) : Type 0 where
  pub rest : List (Event × Reply)
  pub answer : Answer
  pub recorded : IsRecord actor command (es ++ rest) answer
  pub proper : rest ≢ []

-- so are those of the call under way; if no call is left there are none
abbrev pub IsUnderWay : ℕ → Option Command → List (Event × Reply) → Type 0
IsUnderWay actor None es = es ≡ []
IsUnderWay actor (Some command) es = IsBegun actor command es

-- the claim of this run, and then one event for each place of it before a place
pub record IsClaimedUpTo (from n place : ℕ) (es : List (Event × Reply)) : Type 0 where
  pub claim : Event
  pub writes : List (Event × Reply)
  pub events : es ≡ (claim, replies.Run from n) ∷ writes
  pub up_to : from + length writes ≡ place

-- The call's events so far, by its phase: none before its claim; then the claim, and what was filled or
-- broken before the phase's place; or the Mend of the place that it is to fill.
abbrev pub AreSoFar : Phase → List (Event × Reply) → Type 0
AreSoFar phases.Load es = es ≡ []
AreSoFar (phases.Scout from n segment) es = es ≡ []
AreSoFar (phases.Put from n segment) es = es ≡ []
AreSoFar (phases.Exchange from n) es = es ≡ []
AreSoFar (phases.Raise to) es = es ≡ []
AreSoFar (phases.Begin from n place) es = IsClaimedUpTo from n place es
AreSoFar (phases.Fill from n place) es = IsClaimedUpTo from n place es
AreSoFar (phases.Spoil from n place) es = IsClaimedUpTo from n place es
AreSoFar (phases.Mend place) es = es ≡ []
AreSoFar (phases.FillMended place) es = (actor : ℕ) × (es ≡ (Mend actor place, replies.Done) ∷ [])
AreSoFar (phases.Look place) es = es ≡ []

-- The events of an actor are the records of its ended calls, in its program's order, and a proper prefix of
-- one more.
pub record IsRecorded (p : Play) (actor : ℕ) (program : List Command) : Type 0 where
  pub done : List (Event × Reply)
  pub begun : List (Event × Reply)
  pub whole : events_of actor p.events ≡ done ++ begun
  pub calls : AreCalls actor program 0 (calls_of actor p.ended) done
  pub under_way : IsUnderWay actor (slice_get program (length (calls_of actor p.ended))) begun
  pub so_far : IfSome (slice_get p.at.actors actor) (λ state. AreSoFar state.phase begun)

-- the program of an actor; without one it has no commands
abbrev pub program_of : List (List Command) → ℕ → List Command
program_of programs actor = unwrap_or (slice_get programs actor) []

-- the events of every actor are the records of its calls
abbrev pub AreRecorded : List (List Command) → Play → Type 0
AreRecorded programs p = (actor : ℕ) → IsRecorded p actor (program_of programs actor)

-- so it is in every play: any layout, any limit, any sound programs, any schedule, with any marks of memory
abbrev pub EveryPlayIsRecorded : Type 0
EveryPlayIsRecorded =
    (f : ℕ) → IsLayout f → (limit : ℕ) (programs : List (List Command)) (items : List Item) → IsLimit limit
    → AreSound programs → AreRecorded programs (play_of f limit programs items)
