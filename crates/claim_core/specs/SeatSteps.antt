-- What steps on cells and entries do to the history and to the seat of the hand that makes them, and what a table's
-- rule must permit for that. Only proofs use it.
use Rattle.std.specs.Prelude.{◌≡◌, ◌≢◌, ◌⊎◌, ℕ, ◌<◌, List, [], ◌∷◌, ◌++◌, length, map, replicate, slice_set}
use Rattle.std.specs.List.{range_with_len}
use mathlib.Core.Option.{some}
use lib.ListN.{get_elem?}
use Rattle.atomic_table.specs.Table.{State}
use Rattle.book_core.specs.declared.events.Event.{Event}
use Rattle.book_core.specs.declared.events.Event.TheVariants.{Look}
use Rattle.book_core.specs.declared.events.Reply.{Reply}
use Rattle.book_core.specs.declared.events.Reply.TheVariants as replies
use Rattle.claim_core.specs.declared.role.CellStage.{CellStage}
use Rattle.claim_core.specs.declared.role.CellStage.TheVariants as stages
use Rattle.claim_core.specs.declared.role.Role.{Role}
use Rattle.claim_core.specs.declared.role.Role.TheVariants as roles
use Rattle.claim_core.specs.declared.role.RowAt.{RowAt}
use Rattle.claim_core.specs.declared.seat_view.SeatView.{SeatView}
use Rattle.claim_core.specs.Lengths.{InRun, runs_end}
use Rattle.claim_core.specs.History.{AddsEvents, mender_of, mend_event}
use Rattle.claim_core.specs.Shares.{all_shares}
use Rattle.claim_core.specs.SeatView.{SameOwn, IsConsistent}
use Rattle.claim_core.specs.Ties.{cell_view, role_view}

-- ---- Events. The value of a place is the place

-- what a look shows of a claimed place whose cell is at this stage
abbrev pub look_reply : ℕ → CellStage → Reply
look_reply place stages.Idle = replies.Pending
look_reply place stages.Begun = replies.Pending
look_reply place stages.Mending = replies.Pending
look_reply place stages.Filled = replies.Value place
look_reply place stages.Broken = replies.Broken

-- somebody looks at it
abbrev pub look_event : ℕ → CellStage → Event × Reply
look_event place stage = (Look 0 place, look_reply place stage)

-- who fills or breaks a place whose cell is at this stage: its mender, or the growth of this index
abbrev pub writer_of : ℕ → ℕ → ℕ → CellStage → ℕ
writer_of limit index place stages.Idle = index
writer_of limit index place stages.Begun = index
writer_of limit index place stages.Mending = mender_of limit place
writer_of limit index place stages.Filled = index
writer_of limit index place stages.Broken = index

-- what a try to mend logs that finds one stage and leaves another: the mend, or what a look shows
abbrev pub try_event : ℕ → ℕ → CellStage → CellStage → Event × Reply
try_event limit place stages.Broken stages.Mending = mend_event limit place
try_event limit place stage after = look_event place stage

-- ---- How steps move a cell, from one stage to another

-- a look leaves it
abbrev pub MovesByLook : CellStage → CellStage → Type 0
MovesByLook stage after = after ≡ stage

-- a begin that changes no word finds it idle or begun
abbrev pub MovesByBegin : CellStage → CellStage → Type 0
MovesByBegin stage after = ((stage ≡ stages.Idle) ⊎ (stage ≡ stages.Begun)) × (after ≡ stages.Begun)

-- a begin by an exchange begins an idle one, and leaves any other
abbrev pub MovesByTry : CellStage → CellStage → Type 0
MovesByTry stage after =
    ((stage ≡ stages.Idle) × (after ≡ stages.Begun)) ⊎ ((stage ≢ stages.Idle) × (after ≡ stage))

-- one call has it
abbrev pub IsHeldAt : CellStage → Type 0
IsHeldAt stage = (stage ≡ stages.Begun) ⊎ (stage ≡ stages.Mending)

-- that call fills it
abbrev pub MovesByFill : CellStage → CellStage → Type 0
MovesByFill stage after = IsHeldAt stage × (after ≡ stages.Filled)

-- or breaks it
abbrev pub MovesByBreak : CellStage → CellStage → Type 0
MovesByBreak stage after = IsHeldAt stage × (after ≡ stages.Broken)

-- a try to mend takes a broken one, or leaves what it finds
abbrev pub MovesByMend : CellStage → CellStage → Type 0
MovesByMend stage after = ((stage ≡ stages.Broken) × (after ≡ stages.Mending)) ⊎ (after ≡ stage)

-- ---- What a hand's seat has after such a step

-- the place is below the size that the seat has seen
abbrev pub SeesPlace : SeatView → ℕ → Type 0
SeesPlace v place = place < runs_end v.base v.seen

-- the run of this index, which the seat has seen, has the place; or no run has it, since the word began with it
abbrev pub SeesIn : SeatView → ℕ → ℕ → Type 0
SeesIn v index place = InRun v.base v.seen index place ⊎ (place < v.base)

-- the seat knows of one more place that it is begun; nothing else is learned. If it has all shares, nobody adds an event
pub record Begins (v : SeatView) (place : ℕ) (w : SeatView) : Type 0 where
  pub seen : w.seen ≡ v.seen
  pub log : AddsEvents v.log [] w.log
  pub alone : v.shares ≡ all_shares → w.log ≡ v.log
  pub begun : w.begun ≡ place ∷ v.begun
  pub same : SameOwn v (record w { begun = v.begun })
  pub consistent : IsConsistent w

-- the seat knows one more row; nothing else is learned. If it has all shares, nobody adds an event
pub record LearnsRow (v : SeatView) (row : RowAt) (w : SeatView) : Type 0 where
  pub seen : w.seen ≡ v.seen
  pub log : AddsEvents v.log [] w.log
  pub alone : v.shares ≡ all_shares → w.log ≡ v.log
  pub rows : w.rows ≡ row ∷ v.rows
  pub same : SameOwn v (record w { rows = v.rows })
  pub consistent : IsConsistent w

-- no place from this one on has an entry; nothing else is learned
pub record LearnsEnd (v : SeatView) (laid : ℕ) (w : SeatView) : Type 0 where
  pub seen : w.seen ≡ v.seen
  pub log : w.log ≡ v.log
  pub end : w.laid ≡ laid
  pub same : SameOwn v (record w { laid = v.laid })
  pub consistent : IsConsistent w

-- the seat is what it was
pub record IsStill (v w : SeatView) : Type 0 where
  pub same : w ≡ v
  pub consistent : IsConsistent w

-- ---- What a rule must permit

-- the table of the word
abbrev pub ClaimState : Type 0
ClaimState = State (Unit {0}) SeatView

-- it has other views
abbrev pub with_views : ClaimState → List SeatView → ClaimState
with_views s views = record { words = s.words; homes = s.homes; views = views }

-- whatever the table is, if the seat k has one view, the seat id may have a new one, and k another
abbrev pub PermitsSeat : (ClaimState → Type 0) → ℕ → SeatView → ℕ → SeatView → SeatView → (SeatView → Type 0) → Type 0
PermitsSeat holds id v k before after then =
    (s : ClaimState) → holds s → get_elem? s.views id ≡ some v → get_elem? s.views k ≡ some before
    → (w : SeatView) × holds (with_views s (slice_set (slice_set s.views id w) k after)) × then w

-- the same, if the seat k is that of a cell, for each two stages between which a step may move it
abbrev pub PermitsCell : (ClaimState → Type 0) → ℕ → SeatView → ℕ → (CellStage → CellStage → Type 0)
    → (CellStage → CellStage → SeatView → Type 0) → Type 0
PermitsCell holds id v k moves then =
    (stage after : CellStage) → moves stage after
    → PermitsSeat holds id v k (cell_view stage) (cell_view after) (then stage after)

-- whatever the table is, if the seat k is that of an entry with this role, the seat id may have a new view
abbrev pub PermitsEntry : (ClaimState → Type 0) → ℕ → SeatView → ℕ → Role → (SeatView → Type 0) → Type 0
PermitsEntry holds id v k role then =
    (s : ClaimState) → holds s → get_elem? s.views id ≡ some v → get_elem? s.views k ≡ some (role_view role)
    → (w : SeatView) × holds (with_views s (slice_set s.views id w)) × then w

-- the same, if two other seats have given views, and are to have others
abbrev pub PermitsTrade : (ClaimState → Type 0) → ℕ → SeatView → ℕ → SeatView → SeatView → ℕ → SeatView → SeatView
    → (SeatView → Type 0) → Type 0
PermitsTrade holds id v k before after j other_before other_after then =
    (s : ClaimState) → holds s → get_elem? s.views id ≡ some v → get_elem? s.views k ≡ some before
    → get_elem? s.views j ≡ some other_before
    → (w : SeatView) × holds (with_views s (slice_set (slice_set (slice_set s.views id w) k after) j other_after))
    × then w

-- whatever the table is, n seats of idle cells may be made, and behind them that of their block. No other seat moves
abbrev pub PermitsBlock : (ClaimState → Type 0) → ℕ → Type 0
PermitsBlock holds n =
    (s : ClaimState) → holds s
    → holds (with_views s
    ((s.views ++ replicate n (cell_view stages.Idle)) ++ role_view (roles.Block (length s.views) n) ∷ []))

-- Whatever the table is, the seat id may have a new view, and seats be made that have these roles and nothing else.
-- They have the next numbers, which their roles may use
abbrev pub PermitsMore : (ClaimState → Type 0) → ℕ → SeatView → (ℕ → List Role) → (SeatView → Type 0) → Type 0
PermitsMore holds id v made then =
    (s : ClaimState) → holds s → get_elem? s.views id ≡ some v
    → (w : SeatView) × holds (with_views s (slice_set s.views id w ++ map role_view (made (length s.views)))) × then w

-- the roles of the seats of cells
abbrev pub cell_roles : List CellStage → List Role
cell_roles = map (λ (stage : CellStage). roles.Cell stage)

-- that of an entry that is not set
abbrev pub entry_roles : ℕ → ℕ → ℕ → List Role
entry_roles from n next = roles.EmptyEntry from n ∷ []

-- those of the cells of n places at these stages, and of the block that they are, whose entry is set
abbrev pub placed_roles : (ℕ → CellStage) → ℕ → ℕ → ℕ → List Role
placed_roles stage from n next = cell_roles (map stage (range_with_len from n)) ++ roles.Placed from n ∷ []
