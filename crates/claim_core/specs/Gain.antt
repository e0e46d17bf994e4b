-- What a hand gains by a step on a cell or an entry that its seat goes along with.
use Rattle.std.specs.Prelude.{◌≡◌, ℕ, ◌+◌, ◌<◌, ◌≤◌, Option, Some, None, List, [], ◌∷◌, ◌++◌}
use Rattle.std.specs.List.{Contains}
use Rattle.atomic_table.specs.Seated.{TableId}
use Rattle.book_core.specs.declared.events.Event.{Event}
use Rattle.book_core.specs.declared.events.Reply.{Reply}
use Rattle.tie_core.specs.Tie.{Tie, Stage, Made}
use Rattle.tie_core.specs.Desk.{IsTieOf}
use Rattle.tie_core.specs.Visit.{EntryTie, Content, IsEntryOf}
use Rattle.claim_core.specs.declared.role.RowAt.{RowAt}
use Rattle.claim_core.specs.declared.seat_view.SeatView.{SeatView}
use Rattle.claim_core.specs.Lengths.{InRun}
use Rattle.claim_core.specs.Word.{WordView}
use Rattle.claim_core.specs.History.{Log, AddsEvents, Adds}
use Rattle.claim_core.specs.Hand.{HandView, IsWholeHand, OwnsPlace}
use Rattle.claim_core.specs.Lent.{lent_hand, seat_hand}

-- events of the history, places that it then knows begun, and rows of cells that it then knows
pub record Gain : Type 0 where
  pub events : Log
  pub begun : List ℕ
  pub rows : List RowAt

-- nothing
abbrev pub no_gain : Gain
no_gain = record { events = []; begun = []; rows = [] }

-- one event
abbrev pub an_event : Event × Reply → Gain
an_event e = record { events = e ∷ []; begun = []; rows = [] }

-- a place that is begun
abbrev pub a_begin : ℕ → Gain
a_begin place = record { events = []; begun = place ∷ []; rows = [] }

-- a row of cells
abbrev pub a_row : RowAt → Gain
a_row row = record { events = []; begun = []; rows = row ∷ [] }

-- the hand has gained this, and nothing else of it has changed; if it is whole, nobody else adds an event
pub record Gains (gain : Gain) (old new : HandView) : Type 0 where
  pub of : new.of ≡ old.of
  pub seen : new.seen ≡ old.seen
  pub mine : new.mine ≡ old.mine
  pub shares : new.shares ≡ old.shares
  pub log : AddsEvents old.log gain.events new.log
  pub alone : IsWholeHand old → new.log ≡ old.log ++ gain.events
  pub begun : new.begun ≡ gain.begun ++ old.begun
  pub rows : new.rows ≡ gain.rows ++ old.rows
  pub laid : new.laid ≡ old.laid

-- it has gained what a step on a cell says of the stages before and after it
abbrev pub GainsBy : (Stage → Stage → Gain → Type 0) → Option Made → HandView → HandView → Type 0
GainsBy gains None old new = ⊥
GainsBy gains (Some m) old new = (gain : Gain) × gains m.0 m.1 gain × Gains gain old new

-- it has gained what a step on an entry says of what it found
abbrev pub GainsFrom : (Content → Gain) → Option Content → HandView → HandView → Type 0
GainsFrom gain None old new = ⊥
GainsFrom gain (Some found) old new = Gains (gain found) old new

-- what a hand gains by one step on a run of cells: lists of events, one for each cell at most, and places that it then
-- knows begun
pub record ChainGain : Type 0 where
  pub steps : List Log
  pub begun : List ℕ

-- the hand has gained this, and nothing else of it has changed. Events of others may come before each list
pub record GainsChain (gain : ChainGain) (old new : HandView) : Type 0 where
  pub of : new.of ≡ old.of
  pub seen : new.seen ≡ old.seen
  pub mine : new.mine ≡ old.mine
  pub shares : new.shares ≡ old.shares
  pub log : Adds old.log gain.steps new.log
  pub begun : new.begun ≡ gain.begun ++ old.begun
  pub rows : new.rows ≡ old.rows
  pub laid : new.laid ≡ old.laid

-- it has gained what a step on a run says of the stages of each cell before and after it
abbrev pub GainsAlong : (List Made → ChainGain → Type 0) → Option (List Made) → HandView → HandView → Type 0
GainsAlong gains None old new = ⊥
GainsAlong gains (Some ms) old new = (gain : ChainGain) × gains ms gain × GainsChain gain old new

-- it knows that no place from this one on has an entry, and nothing else of it has changed
pub record EndsAt (end : ℕ) (old new : HandView) : Type 0 where
  pub of : new.of ≡ old.of
  pub seen : new.seen ≡ old.seen
  pub mine : new.mine ≡ old.mine
  pub shares : new.shares ≡ old.shares
  pub log : new.log ≡ old.log
  pub begun : new.begun ≡ old.begun
  pub rows : new.rows ≡ old.rows
  pub laid : new.laid ≡ end

-- the hand has lent its seat, which is one of this table and has this view
pub record IsLent (table : TableId) (v : SeatView) (hand lent : HandView) : Type 0 where
  pub seat : seat_hand hand.of.floor table v ≡ hand
  pub is : lent ≡ lent_hand hand

-- some hand has lent that seat
abbrev pub HasLent : TableId → SeatView → HandView → Type 0
HasLent table v lent = (hand : HandView) × IsLent table v hand lent

-- the cell with this tie is tied to the word
abbrev pub IsTiedTo : WordView → Tie → Type 0
IsTiedTo word tie = IsTieOf word.table word.floor tie

-- so is the entry with this one
abbrev pub IsEntryTo : WordView → EntryTie → Type 0
IsEntryTo word tie = IsEntryOf word.table word.floor tie

-- the place lies in a run that the hand has seen
abbrev pub HasSeenPlace : HandView → ℕ → Type 0
HasSeenPlace hand place = (index : ℕ) × InRun hand.of.base hand.seen index place

-- the hand owns n places from one on
abbrev pub OwnsPlaces : HandView → ℕ → ℕ → Type 0
OwnsPlaces hand from n = (place : ℕ) → from ≤ place → place < from + n → OwnsPlace hand place

-- it knows none of them begun
abbrev pub KnowsNoneBegun : HandView → ℕ → ℕ → Type 0
KnowsNoneBegun hand from n = (place : ℕ) → from ≤ place → place < from + n → Contains hand.begun place → ⊥
