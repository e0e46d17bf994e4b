-- What steps on cells and entries tell the hand whose seat goes along, and which views their own seats have.
use Rattle.std.specs.Prelude.{◌≡◌, ℕ, zero, suc, ◌+◌, ◌-◌, ◌<◌, Option, Some, None, List, [], ◌∷◌, ◌++◌, length}
use Rattle.atomic_table.specs.Seated.{TableId}
use Rattle.tie_core.specs.Tie.{Stage, Idle, Begun, Mending, Filled, Broken, Step, Made}
use Rattle.tie_core.specs.Permits.{PermitsCell}
use Rattle.tie_core.specs.Run.{PermitsRun}
use Rattle.tie_core.specs.Visit.{Content}
use Rattle.claim_core.specs.declared.role.CellStage.{CellStage}
use Rattle.claim_core.specs.declared.role.CellStage.TheVariants as stages
use Rattle.claim_core.specs.declared.role.Role.TheVariants as roles
use Rattle.claim_core.specs.declared.seat_view.SeatView.{SeatView}
use Rattle.claim_core.specs.declared.terms.Terms.{Terms}
use Rattle.claim_core.specs.Lengths.{InRun}
use Rattle.claim_core.specs.History.{Log, AddsEvents, Adds, fill_event, break_event}
use Rattle.claim_core.specs.Shares.{all_shares}
use Rattle.claim_core.specs.Hand.{HandView}
use Rattle.claim_core.specs.Lent.{seat_hand}
use Rattle.claim_core.specs.Gain.{Gain, no_gain, an_event, a_begin, a_row, ChainGain}
use Rattle.claim_core.specs.SeatView.{SameOwn, IsConsistent}
use Rattle.claim_core.specs.SeatSteps.{look_event, try_event, writer_of, SeesIn, LearnsEnd, IsStill}
use Rattle.claim_core.specs.Ties.{role_view, cell_view, LeadsTo}
use Rattle.claim_core.specs.Rule.{Kept}
use Rattle.claim_core.specs.StepLaws.{IsHandSeat}

-- ---- The views of seats that are no hand's

-- how far a cell is, as its seat says it
abbrev pub cell_stage : Stage → CellStage
cell_stage Idle = stages.Idle
cell_stage Begun = stages.Begun
cell_stage Mending = stages.Mending
cell_stage Filled = stages.Filled
cell_stage Broken = stages.Broken

-- the view of the seat of a cell at this stage
abbrev pub stage_view : Stage → SeatView
stage_view stage = cell_view (cell_stage stage)

-- that of the seat of an entry that is not set
abbrev pub empty_view : ℕ → ℕ → SeatView
empty_view from n = role_view (roles.EmptyEntry from n)

-- that of a block that an entry is set to
abbrev pub placed_view : ℕ → ℕ → SeatView
placed_view from n = role_view (roles.Placed from n)

-- that of a block that no entry is set to
abbrev pub block_view : ℕ → ℕ → SeatView
block_view first n = role_view (roles.Block first n)

-- ---- What a hand gains by a step on a cell: of the place, the seat's view, and the stages before and after the step

-- a look: what the cell shows
abbrev pub look_gains : ℕ → SeatView → Stage → Stage → Gain → Type 0
look_gains place v from to gain = gain ≡ an_event (look_event place (cell_stage from))

-- a begin: that the place is begun
abbrev pub begin_gains : ℕ → SeatView → Stage → Stage → Gain → Type 0
begin_gains place v from to gain = gain ≡ a_begin place

-- a fill of a place in a run that the hand has seen, by the claim that has the index of the run
abbrev pub fill_gains : ℕ → SeatView → Stage → Stage → Gain → Type 0
fill_gains place v from to gain =
    (index : ℕ) × InRun v.base v.seen index place
    × (gain ≡ an_event (fill_event (writer_of v.limit index place (cell_stage from)) place))

-- a break of one
abbrev pub spoil_gains : ℕ → SeatView → Stage → Stage → Gain → Type 0
spoil_gains place v from to gain =
    (index : ℕ) × InRun v.base v.seen index place
    × (gain ≡ an_event (break_event (writer_of v.limit index place (cell_stage from)) place))

-- a try to mend: the mend, or what the cell shows
abbrev pub mend_gains : ℕ → SeatView → Stage → Stage → Gain → Type 0
mend_gains place v from to gain = gain ≡ an_event (try_event v.limit place (cell_stage from) (cell_stage to))

-- a fill by the mender
abbrev pub fill_mended_gains : ℕ → SeatView → Stage → Stage → Gain → Type 0
fill_mended_gains place v from to gain =
    (index : ℕ) × SeesIn v index place
    × (gain ≡ an_event (fill_event (writer_of v.limit index place (cell_stage from)) place))

-- a break by the mender
abbrev pub spoil_mended_gains : ℕ → SeatView → Stage → Stage → Gain → Type 0
spoil_mended_gains place v from to gain =
    (index : ℕ) × SeesIn v index place
    × (gain ≡ an_event (break_event (writer_of v.limit index place (cell_stage from)) place))

-- a read by a whole hand: no event; its history leads to a list that shows the cell as it is
abbrev pub read_gains : ℕ → SeatView → Stage → Stage → Gain → Type 0
read_gains place v from to gain =
    (gain ≡ no_gain) × (v.shares ≡ all_shares)
    × LeadsTo v.limit v.base v.filled v.seen v.log place (cell_stage from)

-- ---- What a hand gains by a step on a run of cells: of the first place, the seat's view, and the stages of each cell
-- before and after the step, in order

-- n places from one on, the last one first
abbrev pub places_back : ℕ → ℕ → List ℕ
places_back place zero = []
places_back place (suc n) = (place + n) ∷ places_back place n

-- all of n places from one on are in the run of this index
abbrev pub AreInRun : ℕ → List ℕ → ℕ → ℕ → ℕ → Type 0
AreInRun base lengths index place n = (i : ℕ) → i < n → InRun base lengths index (place + i)

-- the fills of places from one on, in order, each by the stage of its cell before it
abbrev pub fills_by : ℕ → ℕ → ℕ → List Made → List Log
fills_by limit index place [] = []
fills_by limit index place (m ∷ ms) =
    (fill_event (writer_of limit index place (cell_stage m.0)) place ∷ []) ∷ fills_by limit index (place + 1) ms

-- a begin: that the places are begun
abbrev pub begin_run_gains : ℕ → SeatView → List Made → ChainGain → Type 0
begin_run_gains place v ms gain = gain ≡ record { steps = []; begun = places_back place (length ms) }

-- a fill of places that the hand has seen: if they are all in one run, by the claim that has its index
abbrev pub fill_run_gains : ℕ → SeatView → List Made → ChainGain → Type 0
fill_run_gains place v ms gain =
    (gain.begun ≡ [])
    × ((index : ℕ) → AreInRun v.base v.seen index place (length ms) → gain.steps ≡ fills_by v.limit index place ms)

-- ---- What a hand gains by a step on an entry of n places: of the place, and what the step found

-- a look: that the place is pending, or where the places stand
abbrev pub found_gain : ℕ → ℕ → ℕ → Content → Gain
found_gain from n place None = an_event (look_event place stages.Idle)
found_gain from n place (Some k) = a_row (record { from = from; n = n; seat = k - n })

-- a look that names no place: nothing, or where the places stand
abbrev pub scout_gain : ℕ → ℕ → ℕ → Content → Gain
scout_gain from n place None = no_gain
scout_gain from n place (Some k) = a_row (record { from = from; n = n; seat = k - n })

-- an exchange that sets the entry to a block, whose cells have the seats from `first` on, or finds one that was first
abbrev pub set_gain : ℕ → ℕ → ℕ → ℕ → Content → Gain
set_gain from n first place None = a_row (record { from = from; n = n; seat = first })
set_gain from n first place (Some k) = a_row (record { from = from; n = n; seat = k - n })

-- ---- The same of its seat

-- the seat has gained this; nothing else is learned. If it has all shares, nobody else adds an event
pub record Learns (v : SeatView) (gain : Gain) (w : SeatView) : Type 0 where
  pub seen : w.seen ≡ v.seen
  pub log : AddsEvents v.log gain.events w.log
  pub alone : v.shares ≡ all_shares → w.log ≡ v.log ++ gain.events
  pub begun : w.begun ≡ gain.begun ++ v.begun
  pub rows : w.rows ≡ gain.rows ++ v.rows
  pub same : SameOwn v (record w { begun = v.begun; rows = v.rows })
  pub consistent : IsConsistent w

-- the seat has gained this by steps one after the other; nothing else is learned
pub record LearnsChain (v : SeatView) (gain : ChainGain) (w : SeatView) : Type 0 where
  pub seen : w.seen ≡ v.seen
  pub log : Adds v.log gain.steps w.log
  pub begun : w.begun ≡ gain.begun ++ v.begun
  pub same : SameOwn v (record w { begun = v.begun })
  pub consistent : IsConsistent w

-- what a step on a cell tells
abbrev pub told_by : (ℕ → SeatView → Stage → Stage → Gain → Type 0) → ℕ → SeatView → Stage → Stage → SeatView → Type 0
told_by gains place v from to w = (gain : Gain) × gains place v from to gain × Learns v gain w

-- what a step on a run tells
abbrev pub told_along : (ℕ → SeatView → List Made → ChainGain → Type 0) → ℕ → SeatView → List Made → SeatView → Type 0
told_along gains place v ms w = (gain : ChainGain) × gains place v ms gain × LearnsChain v gain w

-- what a step on an entry tells
abbrev pub told_of : (ℕ → Content → Gain) → ℕ → SeatView → Content → SeatView → Type 0
told_of gain place v found w = Learns v (gain place found) w

-- what a step on an entry tells that leaves the seat
abbrev pub unseen : ℕ → SeatView → Content → SeatView → Type 0
unseen told v found w = IsStill v w

-- what a new entry of n places tells
abbrev pub entered : ℕ → ℕ → SeatView → Content → SeatView → Type 0
entered n from v found w = LearnsEnd v (from + n) w

-- whichever its seat is, the rule lets it go along with this step on the cell of the seat k
abbrev pub MayStep : Step → (SeatView → Stage → Stage → SeatView → Type 0) → HandView → ℕ → Type 0
MayStep step then hand k =
    (terms : Terms) (id floor : ℕ) (table : TableId) (v : SeatView) → IsHandSeat terms v
    → seat_hand floor table v ≡ hand
    → PermitsCell (Kept terms) stage_view step id v k (then v)

-- the same of a step on n cells, whose seats have numbers in a row from k on
abbrev pub MayStepAlong : Step → (SeatView → List Made → SeatView → Type 0) → HandView → ℕ → ℕ → Type 0
MayStepAlong step then hand k n =
    (terms : Terms) (id floor : ℕ) (table : TableId) (v : SeatView) → IsHandSeat terms v → IsConsistent v
    → seat_hand floor table v ≡ hand
    → PermitsRun (Kept terms) stage_view step id v k n (then v)

-- ---- What a read tells a hand

-- the history that the hand has seen leads to a list that shows the place as a cell at this stage is
abbrev pub ShowsAt : HandView → ℕ → CellStage → Type 0
ShowsAt hand place stage = LeadsTo hand.of.limit hand.of.base hand.of.filled hand.seen hand.log place stage

-- the hand is what it was, and its history shows the place as the read found its cell
abbrev pub ReadsBy : ℕ → Option Made → HandView → HandView → Type 0
ReadsBy place None old new = ⊥
ReadsBy place (Some m) old new = (new ≡ old) × ShowsAt old place (cell_stage m.0)
