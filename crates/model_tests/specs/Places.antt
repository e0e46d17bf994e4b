-- What users of plays want to know of claimed places: who still has to finish them, and what they hold later
-- on.
use Rattle.std.specs.Prelude.{◌≡◌, ◌≢◌, ◌+◌, ◌<◌, ◌↔◌, ◌⊎◌, ℕ, true, List, [], ◌∷◌, length, Option, Some, None, slice_get}
use Rattle.std.specs.List.{Contains, sum_by}
use Rattle.std.specs.FinMap.{get}
use Rattle.std.specs.FinSet as set
use Rattle.seg_core.specs.Segment.{IsLayout, IsLimit, segment_of}
use Rattle.book_core.specs.declared.cells.Cell.TheVariants as cells
use Rattle.book_core.specs.declared.events.Event.{Event}
use Rattle.book_core.specs.declared.events.Event.TheVariants.{Finish, Break, Mend}
use Rattle.book_core.specs.declared.events.Reply.{Reply}
use Rattle.book_core.specs.declared.events.Reply.TheVariants as replies
use Rattle.book_core.specs.declared.commands.Command.{Command}
use Rattle.book_core.specs.declared.commands.Command.TheVariants as commands
use Rattle.book_core.specs.declared.commands.Answer.{Answer}
use Rattle.book_core.specs.declared.commands.Answer.TheVariants as answers
use Rattle.book_core.specs.declared.commands.Ended.{Ended}
use Rattle.book_core.specs.declared.commands.Item.{Item}
use Rattle.book_core.specs.Commands.{AreSound, calls_of}
use Rattle.book_core.specs.Events.{actor_of}
use Rattle.book_core.specs.History.{OwnedRun, runs_of, owner_of, events_of, writes_of}
use Rattle.book_core.specs.Laws.{IsItsToFinish}
use Rattle.step_core.specs.declared.machine.phase.Actor.{Actor}
use Rattle.step_core.specs.declared.machine.phase.Phase.TheVariants.{Load, Begin}
use Rattle.step_core.specs.declared.machine.phase.CellSlot.TheVariants.{Busy}
use Rattle.step_core.specs.declared.programs.Played.{Played}
use Rattle.step_core.specs.calls.Play.{calls_played}
use Rattle.step_core.specs.machine.Claims.{claim_of}
use Rattle.step_core.specs.machine.Step.{Configuration, Step, step_of}
use Rattle.step_core.specs.machine.Play.{Play, after_items, play_of, played_of}
use Rattle.step_core.specs.machine.Record.{AreCalls, program_of}
use Rattle.step_core.specs.machine.Tiling.{IsUnfinished, Owes}

-- it holds of every play: of any layout, limit, programs and schedule, with any marks of memory
abbrev pub OfEveryPlay : (Play → Type 0) → Type 0
OfEveryPlay Holds =
    (f : ℕ) → IsLayout f → (limit : ℕ) (programs : List (List Command)) (items : List Item) → IsLimit limit
    → Holds (play_of f limit programs items)

-- it holds of every play of sound programs
abbrev pub OfEverySoundPlay : (Play → Type 0) → Type 0
OfEverySoundPlay Holds =
    (f : ℕ) → IsLayout f → (limit : ℕ) (programs : List (List Command)) (items : List Item) → IsLimit limit
    → AreSound programs → Holds (play_of f limit programs items)

-- ---- The size

-- how many places these runs have
abbrev pub places_in : List OwnedRun → ℕ
places_in runs = sum_by (λ (run : OwnedRun). run.n) runs

-- the size is the sum of the claimed runs
abbrev pub SizeIsTheSumOfRuns : Play → Type 0
SizeIsTheSumOfRuns p = p.at.storage.size ≡ places_in (runs_of p.events)

-- the place has an owner, and in this layout its segment is installed
pub record IsHeld (f : ℕ) (p : Play) (place : ℕ) : Type 0 where
  pub owner : ℕ
  pub owns : owner_of (runs_of p.events) place ≡ Some owner
  pub installed : set.contains p.at.storage.installed (segment_of f place) ≡ true

-- so is every claimed place of every play
abbrev pub EveryClaimedPlaceIsHeld : Type 0
EveryClaimedPlaceIsHeld =
    (f : ℕ) → IsLayout f → (limit : ℕ) (programs : List (List Command)) (items : List Item) → IsLimit limit
    → (place : ℕ) → place < (play_of f limit programs items).at.storage.size
    → IsHeld f (play_of f limit programs items) place

-- every play of whole calls has a history, and a cell for each place of its runs
abbrev pub WholeCallsClaimTheirCells : Type 0
WholeCallsClaimTheirCells =
    (limit : ℕ) (programs : List (List Command)) (items : List Item) → AreSound programs
    → (played : Played) × (calls_played limit programs items ≡ Some played)
    × (length played.cells ≡ places_in (runs_of played.events))

-- ---- Who has to finish a place

-- the actor owes the place, and no other actor does
pub record IsOnlyDebtor (c : Configuration) (debtor place : ℕ) : Type 0 where
  pub owes : Owes c debtor place
  pub alone : (other : ℕ) → Owes c other place → other ≡ debtor

-- a place is claimed and pending exactly if one actor owes it
abbrev pub PendingPlacesHaveOneDebtor : Play → Type 0
PendingPlacesHaveOneDebtor p =
    (place : ℕ) → ((place < p.at.storage.size) × IsUnfinished (get p.at.storage.slots place))
    ↔ ((debtor : ℕ) × IsOnlyDebtor p.at debtor place)

-- the owner of an unwritten place, and the last mender of a place, is the only actor that owes it
abbrev pub HistoriesNameTheDebtor : Play → Type 0
HistoriesNameTheDebtor p =
    (actor place : ℕ) → IsItsToFinish p.events place actor (writes_of place p.events)
    → IsOnlyDebtor p.at actor place

-- an actor owes only what it owns, or what it has mended
abbrev pub DebtorsOwnOrMended : Play → Type 0
DebtorsOwnOrMended p =
    (actor place : ℕ) → Owes p.at actor place
    → (owner_of (runs_of p.events) place ≡ Some actor) ⊎ Contains (writes_of place p.events) (Mend actor place)

-- an actor between two calls has done something at each place that it owns
abbrev pub EndedCallsLeaveNoDebt : Play → Type 0
EndedCallsLeaveNoDebt p =
    (actor place : ℕ) (state : Actor) → slice_get p.at.actors actor ≡ Some state → state.phase ≡ Load
    → owner_of (runs_of p.events) place ≡ Some actor → writes_of place p.events ≢ []

-- ---- Steps

-- the next step of an item's actor
abbrev pub next_step : Play → Item → Step
next_step p item = step_of p.at item.actor item.memory

-- the item's actor has this call under way, and is in this state
pub record IsUnderWay (p : Play) (item : Item) (state : Actor) (command : Command) : Type 0 where
  pub there : slice_get p.at.actors item.actor ≡ Some state
  pub call : slice_get state.program state.ended ≡ Some command

-- an actor that is about to begin a place gets its slot in that step
abbrev pub BeginsTakeTheSlot : Play → Type 0
BeginsTakeTheSlot p =
    (item : Item) (state : Actor) (command : Command) (from n place : ℕ) → IsUnderWay p item state command
    → state.phase ≡ Begin from n place → get (next_step p item).to.storage.slots place ≡ Some (Busy item.actor)

-- the step is the claim of this call, and makes the size larger by the run of its reply
pub record IsItsClaim (p : Play) (item : Item) (command : Command) : Type 0 where
  pub claim : Event
  pub n : ℕ
  pub own : claim_of item.actor command ≡ Some claim
  pub event : (next_step p item).event ≡ Some (claim, replies.Run p.at.storage.size n)
  pub some : 0 < n
  pub size : (next_step p item).to.storage.size ≡ p.at.storage.size + n

-- a step leaves the size as it is, or it is the claim of the stepping actor's own call
abbrev pub MovesAreTheActorsClaims : Play → Type 0
MovesAreTheActorsClaims p =
    (item : Item) (state : Actor) (command : Command) → IsUnderWay p item state command
    → ((next_step p item).to.storage.size ≡ p.at.storage.size) ⊎ IsItsClaim p item command

-- a growth of nothing takes one step, which leaves the size as it is
abbrev pub NothingIsClaimedByNothing : Play → Type 0
NothingIsClaimedByNothing p =
    (item : Item) (state : Actor) (value : ℕ) → IsUnderWay p item state (commands.Grow 0 value)
    → (state.phase ≡ Load) × ((next_step p item).to.storage.size ≡ p.at.storage.size)

-- ---- Calls under way

-- the events of an actor are the records of its ended calls, and no others
abbrev pub HasWholeRecords : List (List Command) → Play → ℕ → Type 0
HasWholeRecords programs p actor =
    AreCalls actor (program_of programs actor) 0 (calls_of actor p.ended) (events_of actor p.events)

-- so it is while the actor is at Load
abbrev pub HaveWholeRecordsAtLoad : List (List Command) → Play → Type 0
HaveWholeRecordsAtLoad programs p =
    (actor : ℕ) (state : Actor) → slice_get p.at.actors actor ≡ Some state → state.phase ≡ Load
    → HasWholeRecords programs p actor

-- and until its read ends, if that is its call under way
abbrev pub HaveWholeRecordsWhileReading : List (List Command) → Play → Type 0
HaveWholeRecordsWhileReading programs p =
    (actor place : ℕ)
    → slice_get (program_of programs actor) (length (calls_of actor p.ended)) ≡ Some (commands.Read place)
    → HasWholeRecords programs p actor

-- the calls of an actor that have ended are the first ones of its program, in order, with numbers from 1 on
abbrev pub CallsFollowThePrograms : List (List Command) → Play → Type 0
CallsFollowThePrograms programs p =
    (actor i : ℕ) (ended : Ended) → slice_get (calls_of actor p.ended) i ≡ Some ended
    → (slice_get (program_of programs actor) i ≡ Some ended.command) × (ended.number ≡ i + 1)

-- the reply that an answer repeats, if it repeats one
abbrev pub reply_in : Answer → Option Reply
reply_in (answers.At place) = None
reply_in (answers.Run from n) = Some (replies.Run from n)
reply_in (answers.Enough size) = Some (replies.Enough size)
reply_in (answers.BrokenRun from n made) = Some (replies.Run from n)
reply_in (answers.Full size) = Some (replies.Full size)
reply_in answers.NoMemory = Some replies.NoMemory
reply_in (answers.Value value) = Some (replies.Value value)
reply_in answers.Pending = Some replies.Pending
reply_in answers.Broken = Some replies.Broken
reply_in (answers.OutOfRange size) = Some (replies.OutOfRange size)
reply_in (answers.Size size) = Some (replies.Size size)

-- what an ended call returned, the history replied to an event of its actor
abbrev pub AnswersAreReplies : List (List Command) → Play → Type 0
AnswersAreReplies programs p =
    (i : ℕ) (ended : Ended) (reply : Reply) → slice_get p.ended i ≡ Some ended → reply_in ended.answer ≡ Some reply
    → (event : Event) × (actor_of event ≡ ended.actor) × Contains p.events (event, reply)

-- it holds of every play of sound programs
abbrev pub OfEveryRecord : (List (List Command) → Play → Type 0) → Type 0
OfEveryRecord Holds =
    (f : ℕ) → IsLayout f → (limit : ℕ) (programs : List (List Command)) (items : List Item) → IsLimit limit
    → AreSound programs → Holds programs (play_of f limit programs items)

-- ---- What places hold later on

-- The owner broke the place, this actor mended it, and since then at most this actor did anything there: it
-- filled it.
pub record IsMendedOnce (writes : List Event) (mender place : ℕ) : Type 0 where
  pub owner : ℕ
  pub after : List Event
  pub is : writes ≡ Break owner place ∷ Mend mender place ∷ after
  pub filled : (after ≡ []) ⊎ ((value : ℕ) × (after ≡ Finish mender place value ∷ []))

abbrev pub MendedPlacesAreTheMenders : Play → Type 0
MendedPlacesAreTheMenders p =
    (mender place : ℕ) → Contains (writes_of place p.events) (Mend mender place)
    → IsMendedOnce (writes_of place p.events) mender place

-- a mended place that was filled has the mender's value in every later configuration
abbrev pub MendersValuesStay : Play → Type 0
MendersValuesStay p =
    (mender filler place value : ℕ) (more : List Item) → Contains (writes_of place p.events) (Mend mender place)
    → Contains p.events (Finish filler place value, replies.Done)
    → (filler ≡ mender) × (slice_get (played_of (after_items p more)).cells place ≡ Some (cells.Filled value))

-- This actor filled the place: as its owner, or as one who mended it; and nobody else filled it.
pub record IsFillerOf (p : Play) (writer place value : ℕ) : Type 0 where
  pub filled : Contains p.events (Finish writer place value, replies.Done)
  pub its : (owner_of (runs_of p.events) place ≡ Some writer) ⊎ Contains (writes_of place p.events) (Mend writer place)
  pub alone : (other held : ℕ) → Contains p.events (Finish other place held, replies.Done) → other ≡ writer

-- a place that holds a value was filled with it by one actor, its owner or a mender
abbrev pub FilledPlacesHaveOneFiller : Play → Type 0
FilledPlacesHaveOneFiller p =
    (place value : ℕ) → slice_get (played_of p).cells place ≡ Some (cells.Filled value)
    → (writer : ℕ) × IsFillerOf p writer place value

-- the call puts this value at the place that it returns
abbrev pub Puts : Command → ℕ → Type 0
Puts command value = (command ≡ commands.Push value) ⊎ ((place : ℕ) × (command ≡ commands.Mend place value))

-- the place that a push or a mend returned holds its value in every later configuration
abbrev pub AnsweredPlacesKeepTheValue : Play → Type 0
AnsweredPlacesKeepTheValue p =
    (i place value : ℕ) (ended : Ended) (more : List Item) → slice_get p.ended i ≡ Some ended
    → Puts ended.command value → ended.answer ≡ answers.At place
    → slice_get (played_of (after_items p more)).cells place ≡ Some (cells.Filled value)

-- a broken place is broken in every later configuration, unless somebody has mended it
abbrev pub BrokenPlacesWaitForAMend : Play → Type 0
BrokenPlacesWaitForAMend p =
    (place : ℕ) (more : List Item) → slice_get (played_of p).cells place ≡ Some cells.Broken
    → (slice_get (played_of (after_items p more)).cells place ≡ Some cells.Broken)
    ⊎ ((mender : ℕ) × Contains (writes_of place (after_items p more).events) (Mend mender place))
