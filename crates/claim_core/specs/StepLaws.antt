-- What the rule of the word permits a hand's seat to do beside seats of cells and entries, and what it says of a hand
-- with all shares. Crates above tie cells and entries to a word by these laws.
use Rattle.std.specs.Prelude.{◌≡◌, ℕ, ◌+◌, ◌-◌, ◌<◌, ◌≤◌, List, [], ◌∷◌, slice_get}
use Rattle.std.specs.List.{Contains}
use mathlib.Core.Option.{some}
use lib.ListN.{get_elem?}
use Rattle.book_core.specs.declared.events.Event.{Event}
use Rattle.book_core.specs.declared.events.Reply.{Reply}
use Rattle.book_core.specs.Cells.{CellList}
use Rattle.book_core.specs.History.{IsHistory}
use Rattle.claim_core.specs.declared.role.CellStage.{CellStage}
use Rattle.claim_core.specs.declared.role.CellStage.TheVariants as stages
use Rattle.claim_core.specs.declared.role.Role.TheVariants as roles
use Rattle.claim_core.specs.declared.seat_view.SeatView.{SeatView}
use Rattle.claim_core.specs.declared.terms.Terms.{Terms}
use Rattle.claim_core.specs.Lengths.{InRun}
use Rattle.claim_core.specs.History.{first_list, fill_event, break_event}
use Rattle.claim_core.specs.Shares.{all_shares}
use Rattle.claim_core.specs.SeatView.{spent_view, IsConsistent, Remarks, Claims}
use Rattle.claim_core.specs.Ties.{role_view, cell_view, first_stage, Finds, Matches}
use Rattle.claim_core.specs.Rule.{Kept}
use Rattle.claim_core.specs.SeatSteps.{ClaimState, look_event, writer_of, try_event, MovesByLook, MovesByBegin, MovesByTry, MovesByFill, MovesByBreak, MovesByMend, SeesPlace, SeesIn, Begins, LearnsRow, LearnsEnd, IsStill, PermitsCell, PermitsEntry, PermitsTrade, PermitsBlock, PermitsMore, entry_roles, placed_roles}

-- the seat is one of a hand of a word with these terms
pub record IsHandSeat (terms : Terms) (v : SeatView) : Type 0 where
  pub limit : v.limit ≡ terms.limit
  pub base : v.base ≡ terms.base
  pub filled : v.filled ≡ terms.mark.filled
  pub part : 0 < v.shares

-- the hand knows the seat of the place's cell
pub record FindsPlace (terms : Terms) (v : SeatView) (place seat : ℕ) : Type 0 where
  pub hand : IsHandSeat terms v
  pub found : Finds v.rows place seat

-- the place is one of a run of the hand's own
pub record OwnsAt (v : SeatView) (index place : ℕ) : Type 0 where
  pub owned : Contains v.mine index
  pub in_run : InRun v.base v.seen index place

-- a look at a place that the hand has seen logs what the cell's stage says
abbrev pub LooksArePermitted : Type 0
LooksArePermitted =
    (terms : Terms) (id seat place : ℕ) (v : SeatView) → FindsPlace terms v place seat → SeesPlace v place
    → PermitsCell (Kept terms) id v seat MovesByLook (λ stage after. Remarks v (look_event place stage ∷ []))

-- a fill logs its event, by the actor whose run has the place or by the mender
abbrev pub FillsArePermitted : Type 0
FillsArePermitted =
    (terms : Terms) (id seat place index : ℕ) (v : SeatView) → FindsPlace terms v place seat → SeesIn v index place
    → PermitsCell (Kept terms) id v seat MovesByFill
    (λ stage after. Remarks v (fill_event (writer_of terms.limit index place stage) place ∷ []))

-- so does a break
abbrev pub BreaksArePermitted : Type 0
BreaksArePermitted =
    (terms : Terms) (id seat place index : ℕ) (v : SeatView) → FindsPlace terms v place seat → SeesIn v index place
    → PermitsCell (Kept terms) id v seat MovesByBreak
    (λ stage after. Remarks v (break_event (writer_of terms.limit index place stage) place ∷ []))

-- a try to mend logs the mend, or what a look shows
abbrev pub MendsArePermitted : Type 0
MendsArePermitted =
    (terms : Terms) (id seat place : ℕ) (v : SeatView) → FindsPlace terms v place seat → SeesPlace v place
    → PermitsCell (Kept terms) id v seat MovesByMend
    (λ stage after. Remarks v (try_event terms.limit place stage after ∷ []))

-- a begin that changes no word, of an own place that the hand does not know begun, finds it idle
abbrev pub BeginsArePermitted : Type 0
BeginsArePermitted =
    (terms : Terms) (id seat place index : ℕ) (v : SeatView) → FindsPlace terms v place seat → OwnsAt v index place
    → (Contains v.begun place → ⊥)
    → PermitsCell (Kept terms) id v seat MovesByBegin (λ stage after w. (stage ≡ stages.Idle) × Begins v place w)

-- after a begin by an exchange, won or lost, the hand knows that its own place is begun
abbrev pub TriesArePermitted : Type 0
TriesArePermitted =
    (terms : Terms) (id seat place index : ℕ) (v : SeatView) → FindsPlace terms v place seat → OwnsAt v index place
    → PermitsCell (Kept terms) id v seat MovesByTry (λ stage after. Begins v place)

-- a look that finds no entry, at a place that the hand has seen, logs that it is pending
abbrev pub BareLooksArePermitted : Type 0
BareLooksArePermitted =
    (terms : Terms) (id seat place from n : ℕ) (v : SeatView) → IsHandSeat terms v → from ≤ place → place < from + n
    → SeesPlace v place
    → PermitsEntry (Kept terms) id v seat (roles.EmptyEntry from n) (Remarks v (look_event place stages.Idle ∷ []))

-- a look that finds no entry, and names no place, logs nothing
abbrev pub ScoutsArePermitted : Type 0
ScoutsArePermitted =
    (terms : Terms) (id seat from n : ℕ) (v : SeatView) → IsHandSeat terms v
    → PermitsEntry (Kept terms) id v seat (roles.EmptyEntry from n) (Remarks v [])

-- a hand that finds an entry set learns where its places stand
abbrev pub RowsArePermitted : Type 0
RowsArePermitted =
    (terms : Terms) (id seat from n : ℕ) (v : SeatView) → IsHandSeat terms v
    → PermitsEntry (Kept terms) id v seat (roles.Placed from n)
    (LearnsRow v (record { from = from; n = n; seat = seat - n }))

-- an entry that is not set may be set to a block
abbrev pub PublishingIsPermitted : Type 0
PublishingIsPermitted =
    (terms : Terms) (id entry seat from first n : ℕ) (v : SeatView) → IsHandSeat terms v
    → PermitsTrade (Kept terms) id v entry (role_view (roles.EmptyEntry from n)) spent_view seat
    (role_view (roles.Block first n)) (role_view (roles.Placed from n))
    (LearnsRow v (record { from = from; n = n; seat = first }))

-- it may be set also beside a hand that stays as it is
abbrev pub UnseenPublishingIsPermitted : Type 0
UnseenPublishingIsPermitted =
    (terms : Terms) (id entry seat from first n : ℕ) (v : SeatView) → IsHandSeat terms v
    → PermitsTrade (Kept terms) id v entry (role_view (roles.EmptyEntry from n)) spent_view seat
    (role_view (roles.Block first n)) (role_view (roles.Placed from n)) (IsStill v)

-- a block and its cells may be made
abbrev pub LayingIsPermitted : Type 0
LayingIsPermitted = (terms : Terms) (n : ℕ) → PermitsBlock (Kept terms) n

-- a whole hand may make an entry past all that there are, and past the places that the word began with
abbrev pub EntriesArePermitted : Type 0
EntriesArePermitted =
    (terms : Terms) (id from n : ℕ) (v : SeatView) → IsHandSeat terms v → v.shares ≡ all_shares → v.laid ≤ from
    → v.base ≤ from
    → PermitsMore (Kept terms) id v (entry_roles from n) (LearnsEnd v (from + n))

-- or one that is set already, to a block whose cells are as the word was opened
abbrev pub AdoptionIsPermitted : Type 0
AdoptionIsPermitted =
    (terms : Terms) (id from n : ℕ) (v : SeatView) → IsHandSeat terms v → v.shares ≡ all_shares → v.laid ≤ from
    → PermitsMore (Kept terms) id v (placed_roles (first_stage terms.base terms.mark.filled) from n)
    (LearnsEnd v (from + n))

-- the history of a whole hand leads to a list that shows of each place, of a row that it knows, what its cell is at
pub record ShowsWhole (terms : Terms) (s : ClaimState) (v : SeatView) : Type 0 where
  pub lengths : List ℕ
  pub seen : v.seen ≡ lengths
  pub list : CellList
  pub history : IsHistory (first_list terms.limit terms.base terms.mark.filled) v.log list
  pub cells : (place seat : ℕ) (stage : CellStage) → Finds v.rows place seat
      → get_elem? s.views seat ≡ some (cell_view stage)
      → Matches terms.limit terms.base lengths place (slice_get list.cells place) stage

abbrev pub WholeHandsShowAll : Type 0
WholeHandsShowAll =
    (terms : Terms) (s : ClaimState) (id : ℕ) (v : SeatView) → Kept terms s → get_elem? s.views id ≡ some v
    → v.shares ≡ all_shares → ShowsWhole terms s v

-- after a claim the hand knows none of its places begun
abbrev pub ClaimsAreNotBegun : Type 0
ClaimsAreNotBegun =
    (v w : SeatView) (found n place : ℕ) (event : ℕ → Event × Reply) → IsConsistent v → Claims v found n event w
    → found ≤ place → Contains w.begun place → ⊥
