-- What ties the history to hands, cells and entries. Each cell of a vector that keeps its history has a seat of the
-- word's table, whose view shows how far the cell is, and so has each entry of the segment table. Only proofs use it.
use Rattle.std.specs.Prelude.{◌≡◌, ◌≢◌, ◌⊎◌, ℕ, ◌+◌, ◌<◌, ◌≤◌, nat_lt, if◌then◌else◌, Bool, false, List, get_or, slice_get, Option, Some, None}
use Rattle.std.specs.List.{Contains}
use mathlib.Core.Option.{some}
use lib.ListN.{get_elem?}
use Rattle.tie_core.specs.Tie.{Stage, Idle, Filled, Broken, stages_from}
use Rattle.book_core.specs.declared.cells.Cell.{Cell}
use Rattle.book_core.specs.declared.cells.Cell.TheVariants.{Pending}
use Rattle.book_core.specs.Cells.{CellList}
use Rattle.book_core.specs.History.{IsHistory}
use Rattle.claim_core.specs.declared.role.CellStage.{CellStage}
use Rattle.claim_core.specs.declared.role.CellStage.TheVariants as stages
use Rattle.claim_core.specs.declared.role.Role.{Role}
use Rattle.claim_core.specs.declared.role.Role.TheVariants as roles
use Rattle.claim_core.specs.declared.role.RowAt.{RowAt}
use Rattle.claim_core.specs.declared.seat_view.SeatView.{SeatView}
use Rattle.claim_core.specs.declared.terms.Terms.{Terms}
use Rattle.claim_core.specs.Lengths.{InRun, runs_end}
use Rattle.claim_core.specs.History.{Log, first_list, value_cell, broken_cell, mender_of}
use Rattle.claim_core.specs.SeatView.{spent_view}

-- ---- Views

-- the view of a seat that is no hand's: it has this role, and nothing else
abbrev pub role_view : Role → SeatView
role_view role = record spent_view { role = role }

-- the view of a cell's seat
abbrev pub cell_view : CellStage → SeatView
cell_view stage = role_view (roles.Cell stage)

-- ---- Places

-- for each place the seat of its cell, the seat that its entry was made with, and how far its cell is
pub record Ties : Type 0 where
  pub seat_of : ℕ → Option ℕ
  pub entry_of : ℕ → Option ℕ
  pub stage : ℕ → CellStage

-- how far the cell of a place is when the word is opened
abbrev pub first_stage : ℕ → List Bool → ℕ → CellStage
first_stage base filled place =
    if nat_lt place base then (if get_or filled place false then stages.Filled else stages.Broken) else stages.Idle

-- the same as a stage of tie_core
abbrev pub opened_stage : ℕ → List Bool → ℕ → Stage
opened_stage base filled place =
    if nat_lt place base then (if get_or filled place false then Filled else Broken) else Idle

-- by the word's terms
abbrev pub opened_by : Terms → ℕ → Stage
opened_by terms = opened_stage terms.base terms.mark.filled

-- those of n places from one on
abbrev pub first_stages : ℕ → List Bool → ℕ → ℕ → List Stage
first_stages base filled from n = stages_from (opened_stage base filled) from n

-- nothing is tied yet
abbrev pub no_ties : ℕ → List Bool → Ties
no_ties base filled = record { seat_of = λ place. None; entry_of = λ place. None; stage = first_stage base filled }

-- the place is pending for the growth whose run has it
abbrev pub Owed : ℕ → List ℕ → ℕ → Option Cell → Type 0
Owed base lengths place cell = (index : ℕ) × InRun base lengths index place × (cell ≡ Some (Pending index))

-- what the list of the history has at a place whose cell is at this stage
abbrev pub Matches : ℕ → ℕ → List ℕ → ℕ → Option Cell → CellStage → Type 0
Matches limit base lengths place cell stages.Idle = (cell ≡ None) ⊎ Owed base lengths place cell
Matches limit base lengths place cell stages.Begun = Owed base lengths place cell
Matches limit base lengths place cell stages.Mending = cell ≡ Some (Pending (mender_of limit place))
Matches limit base lengths place cell stages.Filled = cell ≡ Some (value_cell place)
Matches limit base lengths place cell stages.Broken = cell ≡ Some broken_cell

-- the history leads to a list that shows the place as a cell at this stage is
pub record LeadsTo (limit base : ℕ) (filled : List Bool) (lengths : List ℕ) (log : Log) (place : ℕ) (stage : CellStage) : Type 0 where
  pub list : CellList
  pub history : IsHistory (first_list limit base filled) log list
  pub shows : Matches limit base lengths place (slice_get list.cells place) stage

-- ---- The knowledge of seats

-- the row has the place, in the cell of this seat
pub record IsInRow (row : RowAt) (place seat : ℕ) : Type 0 where
  pub i : ℕ
  pub less : i < row.n
  pub at : place ≡ row.from + i
  pub in_seat : seat ≡ row.seat + i

-- one of the rows has it
abbrev pub Finds : List RowAt → ℕ → ℕ → Type 0
Finds rows place seat = (row : RowAt) × Contains rows row × IsInRow row place seat

-- the rows have n places from one on, in cells whose seats have numbers in a row from this one on
abbrev pub FindsRun : List RowAt → ℕ → ℕ → ℕ → Type 0
FindsRun rows place n seat = (i : ℕ) → i < n → Finds rows (place + i) (seat + i)

-- The knowledge of a seat is true. Its rows say which seats the cells of places have. A place that it knows begun is
-- not idle, and it has seen the place. Of its own runs it knows all places that are not idle. A seat with shares is a
-- hand's, and no place from `laid` on has an entry
pub record Knows (base : ℕ) (lengths : List ℕ) (ties : Ties) (v : SeatView) : Type 0 where
  pub finds : (place seat : ℕ) → Finds v.rows place seat → ties.seat_of place ≡ Some seat
  pub busy : (place : ℕ) → Contains v.begun place → ties.stage place ≢ stages.Idle
  pub within : (place : ℕ) → Contains v.begun place → place < runs_end base v.seen
  pub own : (index place : ℕ) → Contains v.mine index → InRun base lengths index place → ties.stage place ≢ stages.Idle
      → Contains v.begun place
  pub unlaid : 0 < v.shares → (place : ℕ) → v.laid ≤ place → ties.entry_of place ≡ None
  pub hand : 0 < v.shares → v.role ≡ roles.Hand

-- ---- The uses of seats

-- the n seats right before this one are those of idle cells, which belong to no place
pub record IsBlock (ties : Ties) (views : List SeatView) (id first n : ℕ) : Type 0 where
  pub ends : first + n ≡ id
  pub idle : (i : ℕ) → i < n → get_elem? views (first + i) ≡ some (cell_view stages.Idle)
  pub nowhere : (i place : ℕ) → i < n → ties.seat_of place ≡ Some (first + i) → ⊥

-- the entry of the n places was made with this seat. These places have no cells, and nobody has begun them, since the
-- word did not begin with them
pub record IsEmptyEntry (ties : Ties) (id from n : ℕ) : Type 0 where
  pub entry : (i : ℕ) → i < n → ties.entry_of (from + i) ≡ Some id
  pub bare : (i : ℕ) → i < n → ties.seat_of (from + i) ≡ None
  pub idle : (i : ℕ) → i < n → ties.stage (from + i) ≡ stages.Idle

-- the cells of the n places have the n seats right before this one
pub record IsPlaced (ties : Ties) (id from n : ℕ) : Type 0 where
  pub first : ℕ
  pub ends : first + n ≡ id
  pub cells : (i : ℕ) → i < n → ties.seat_of (from + i) ≡ Some (first + i)

-- what the role of a seat says
pub record IsRole (ties : Ties) (views : List SeatView) (id : ℕ) (role : Role) : Type 0 where
  pub block : (first n : ℕ) → role ≡ roles.Block first n → IsBlock ties views id first n
  pub empty : (from n : ℕ) → role ≡ roles.EmptyEntry from n → IsEmptyEntry ties id from n
  pub placed : (from n : ℕ) → role ≡ roles.Placed from n → IsPlaced ties id from n

-- ---- The rule

-- The list shows of each place what its cell is at. A cell's seat shows the same, and no two places have one. A place
-- without a seat is as it was opened. A place whose cell has a seat has an entry. What each seat knows is true, and so
-- is what its role says
pub record TiedBy (limit base : ℕ) (filled : List Bool) (lengths : List ℕ) (list : CellList) (ties : Ties)
    (views : List SeatView) : Type 0 where
  pub shown : (place : ℕ) → Matches limit base lengths place (slice_get list.cells place) (ties.stage place)
  pub seats : (place seat : ℕ) → ties.seat_of place ≡ Some seat
      → get_elem? views seat ≡ some (cell_view (ties.stage place))
  pub apart : (place other seat : ℕ) → ties.seat_of place ≡ Some seat → ties.seat_of other ≡ Some seat → place ≡ other
  pub bare : (place : ℕ) → ties.seat_of place ≡ None → ties.stage place ≡ first_stage base filled place
  pub entered : (place : ℕ) → ties.entry_of place ≡ None → ties.seat_of place ≡ None
  pub each : (id : ℕ) (v : SeatView) → get_elem? views id ≡ some v → Knows base lengths ties v
  pub each_role : (id : ℕ) (v : SeatView) → get_elem? views id ≡ some v → IsRole ties views id v.role
