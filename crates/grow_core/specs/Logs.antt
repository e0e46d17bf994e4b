-- The events that calls add to the history that their hand has seen. Each atomic step of a call that logs some has a list
-- of its own. Events of others may come between the steps, and after the last.
use Rattle.std.specs.Prelude.{◌≡◌, ℕ, ◌+◌, ◌-◌, ◌<◌, List, [], ◌∷◌, ◌++◌, map, length, Result, Ok, Err}
use Rattle.std.specs.List.{Contains, range_with_len}
use mathlib.Core.List.{IsPrefix}
use Rattle.book_core.specs.declared.events.Event.{Event}
use Rattle.book_core.specs.declared.events.Event.TheVariants.{Look}
use Rattle.book_core.specs.declared.events.Reply.{Reply}
use Rattle.book_core.specs.declared.events.Reply.TheVariants as replies
use Rattle.claim_core.specs.declared.run.Run.{Run}
use Rattle.claim_core.specs.Hand.{HandView, single}
use Rattle.claim_core.specs.History.{Log, AddsEvents, Adds, claim_event, raise_event, enough_event, full_event, memory_event, past_event, fill_event, break_event, mend_event, mender_of}
use Rattle.grow_core.specs.declared.errors.GrowError.{GrowError}
use Rattle.grow_core.specs.declared.errors.GrowError.TheVariants.{NoMemory, Full, Moved, Refused, Taken}
use Rattle.grow_core.specs.declared.errors.AtError.{AtError}
use Rattle.grow_core.specs.declared.errors.AtError.TheVariants as at
use Rattle.grow_core.specs.declared.errors.MendError.{MendError}
use Rattle.grow_core.specs.declared.errors.MendError.TheVariants as mend
use Rattle.grow_core.specs.declared.read.At.{At}
use Rattle.grow_core.specs.declared.grow_to_at_least.AtLeast.{AtLeast}
use Rattle.grow_core.specs.declared.grow_to_at_least.AtLeast.TheVariants.{Ran, Enough}
use Rattle.grow_core.specs.declared.grow_to_at_least.Reached.{Reached}
use Rattle.grow_core.specs.declared.grow_to_at_least.Reached.TheVariants as reached
use Rattle.grow_core.specs.Token.{PlacedView}
use Rattle.grow_core.specs.Vector.{VectorView, limit_of}

-- ---- Steps

-- nothing is added but what others did
abbrev pub LogsNothing : HandView → HandView → Type 0
LogsNothing old new = IsPrefix old.log new.log

-- one step with one event
abbrev pub step_of : Event × Reply → List Log
step_of event = (event ∷ []) ∷ []

-- the actor fills n places from one on, in order: a step for each
abbrev pub fill_steps : ℕ → ℕ → ℕ → List Log
fill_steps actor from n = map (λ place. fill_event actor place ∷ []) (range_with_len from n)

-- or breaks them
abbrev pub break_steps : ℕ → ℕ → ℕ → List Log
break_steps actor from n = map (λ place. break_event actor place ∷ []) (range_with_len from n)

-- of a run the first places are filled, and then the others are broken
abbrev pub stop_steps : ℕ → Run → ℕ → List Log
stop_steps actor run made = fill_steps actor run.from made ++ break_steps actor (run.from + made) (run.n - made)

-- ---- What happened to a run that a growth won

-- each place was filled; each was broken; or as many were filled, and then the others broken
pub data Fate : Type 0 where
  AllFilled : Fate
  AllBroken : Fate
  PartFilled : ℕ → Fate

-- the steps of the actor on its run
abbrev pub fate_steps : Fate → ℕ → Run → List Log
fate_steps AllFilled actor run = fill_steps actor run.from run.n
fate_steps AllBroken actor run = break_steps actor run.from run.n
fate_steps (PartFilled made) actor run = stop_steps actor run made

-- The hand has claimed the run under the last index that it has seen, which the event logs
pub record LogsClaim (claim : ℕ → Event × Reply) (old new : HandView) : Type 0 where
  pub index : ℕ
  pub last : length new.seen ≡ index + 1
  pub adds : Adds old.log (step_of (claim index)) new.log

-- the same, and then come the steps on the run's places
pub record LogsWin (claim : ℕ → Event × Reply) (fate : Fate) (run : Run) (old new : HandView) : Type 0 where
  pub claimed : LogsClaim claim old new
  pub places : Adds old.log (step_of (claim claimed.index) ++ fate_steps fate claimed.index run) new.log

-- a growth won: its run is claimed and filled, or it has no places and claims none
pub record LogsGrowth (fate : Fate) (old new : HandView) (run : Run) : Type 0 where
  pub some : 0 < run.n → LogsWin (λ index. claim_event index run) fate run old new
  pub empty : run.n ≡ 0 → Adds old.log (step_of (claim_event 0 run)) new.log

-- the same, before its places are filled
pub record LogsClaimed (old new : HandView) (run : Run) : Type 0 where
  pub some : 0 < run.n → LogsClaim (λ index. claim_event index run) old new
  pub empty : run.n ≡ 0 → Adds old.log (step_of (claim_event 0 run)) new.log

-- a push won its place, and filled it
abbrev pub LogsPush : HandView → HandView → ℕ → Type 0
LogsPush old new place = LogsWin (λ index. claim_event index (single place)) AllFilled (single place) old new

-- ---- Refused growths

-- a growth by n places was refused: the event whose reply the refusal is; or what became of its run, if it has claimed one
abbrev pub LogsRefusal : {T V E : Type 0} → ℕ → HandView → HandView → GrowError T V E → Type 0
LogsRefusal n old new (NoMemory back) = AddsEvents old.log (memory_event ∷ []) new.log
LogsRefusal n old new (Full size back) = AddsEvents old.log (full_event n size ∷ []) new.log
LogsRefusal n old new (Moved size back) = LogsNothing old new
LogsRefusal n old new (Refused run made cause) =
    LogsWin (λ index. claim_event index run) (PartFilled made.run.n) run old new
LogsRefusal n old new (Taken place found) = ⊥

-- ---- Growths up to a size

-- such a growth won, or was not needed
abbrev pub LogsAtLeast : {T : Type 0} → ℕ → HandView → HandView → AtLeast T → Type 0
LogsAtLeast to old new (Ran grown) =
    LogsWin (λ index. raise_event index to grown.run) AllFilled grown.run old new
LogsAtLeast to old new (Enough size) = AddsEvents old.log (enough_event to size ∷ []) new.log

-- so did its claim, whose places are not filled yet
abbrev pub LogsReached : ℕ → HandView → HandView → Reached → Type 0
LogsReached to old new (reached.Won run) = LogsClaim (λ index. raise_event index to run) old new
LogsReached to old new (reached.Enough size) = AddsEvents old.log (enough_event to size ∷ []) new.log

-- such a growth was refused
abbrev pub LogsRefusalUpTo : {T V E : Type 0} → ℕ → HandView → HandView → GrowError T V E → Type 0
LogsRefusalUpTo to old new (NoMemory back) = AddsEvents old.log (memory_event ∷ []) new.log
LogsRefusalUpTo to old new (Full size back) = AddsEvents old.log (full_event (to - size) size ∷ []) new.log
LogsRefusalUpTo to old new (Moved size back) = ⊥
LogsRefusalUpTo to old new (Refused run made cause) =
    LogsWin (λ index. raise_event index to run) (PartFilled made.run.n) run old new
LogsRefusalUpTo to old new (Taken place found) = ⊥

-- ---- Looks

-- somebody looks at a claimed place: nothing is there yet, or it has a value, which the history names by the place, or
-- it is broken
abbrev pub pending_look : ℕ → Event × Reply
pending_look place = (Look 0 place, replies.Pending)

abbrev pub value_look : ℕ → Event × Reply
value_look place = (Look 0 place, replies.Value place)

abbrev pub broken_look : ℕ → Event × Reply
broken_look place = (Look 0 place, replies.Broken)

-- a read without a token found a value
abbrev pub LogsValue : ℕ → HandView → HandView → Type 0
LogsValue place old new = Adds old.log (step_of (value_look place)) new.log

-- it found none
abbrev pub LogsNoValue : ℕ → HandView → HandView → AtError → Type 0
LogsNoValue place old new (at.OutOfRange size) = AddsEvents old.log (past_event place size ∷ []) new.log
LogsNoValue place old new at.Pending = Adds old.log (step_of (pending_look place)) new.log
LogsNoValue place old new (at.Broken spoilt) = Adds old.log (step_of (broken_look place)) new.log

-- it returned this
abbrev pub LogsRead : {T : Type 0} → ℕ → HandView → HandView → Result (At T) AtError → Type 0
LogsRead place old new (Ok found) = LogsValue place old new
LogsRead place old new (Err error) = LogsNoValue place old new error

-- a look at a place was refused
abbrev pub LogsAtRefusal : ℕ → HandView → HandView → AtError → Type 0
LogsAtRefusal place old new (at.OutOfRange size) = AddsEvents old.log (past_event place size ∷ []) new.log
LogsAtRefusal place old new refusal = LogsNothing old new

-- ---- Mends

-- a mender takes the place and fills it. It is an actor of its own, since no claim has its number
abbrev pub mend_steps : ℕ → ℕ → List Log
mend_steps limit place = step_of (mend_event limit place) ++ fill_steps (mender_of limit place) place 1

-- a mend returned why it did not fill its place
abbrev pub LogsNoMend : {T : Type 0} → ℕ → HandView → HandView → MendError T × T → Type 0
LogsNoMend place old new (mend.OutOfRange size, back) = AddsEvents old.log (past_event place size ∷ []) new.log
LogsNoMend place old new (mend.Pending, back) = Adds old.log (step_of (pending_look place)) new.log
LogsNoMend place old new (mend.Filled placed, back) = Adds old.log (step_of (value_look place)) new.log

-- a mend filled its place, or returned why not
abbrev pub LogsMend : {T : Type 0} → VectorView T → ℕ → HandView → HandView → Result (PlacedView T) (MendError T × T) → Type 0
LogsMend vector place old new (Ok placed) = Adds old.log (mend_steps (limit_of vector) place) new.log
LogsMend vector place old new (Err refusal) = LogsNoMend place old new refusal

-- a place was not mended
abbrev pub LogsMendRefusal : {T : Type 0} → ℕ → HandView → HandView → MendError T → Type 0
LogsMendRefusal place old new (mend.OutOfRange size) = AddsEvents old.log (past_event place size ∷ []) new.log
LogsMendRefusal place old new refusal = LogsNothing old new

-- ---- What a history says of a place

-- somebody has filled it
abbrev pub IsFinishedIn : Log → ℕ → Type 0
IsFinishedIn log place = (actor : ℕ) × Contains log (fill_event actor place)
