-- Steps of a hand on a cell and its entry, as the laws of the word's rule have them.
use Rattle.std.specs.Prelude.{◌≡◌, ℕ, ◌≤◌, [], ◌∷◌}
use Rattle.std.specs.List.{Contains}
use mathlib.Core.Option.{some}
use lib.ListN.{get_elem?}
use Rattle.claim_core.specs.declared.role.CellStage.{CellStage}
use Rattle.claim_core.specs.declared.role.CellStage.TheVariants as stages
use Rattle.claim_core.specs.declared.seat_view.SeatView.{SeatView}
use Rattle.claim_core.specs.declared.terms.Terms.{Terms}
use Rattle.claim_core.specs.History.{Log, AddsEvents, fill_event}
use Rattle.claim_core.specs.Shares.{all_shares}
use Rattle.claim_core.specs.SeatSteps.{ClaimState}
use Rattle.claim_core.specs.Ties.{cell_view}
use Rattle.claim_core.specs.Rule.{Kept}
use Rattle.claim_core.specs.StepLaws.{IsHandSeat, FindsPlace, OwnsAt}

-- the rule holds, the seat id has this view, and a cell's seat shows this stage
pub record Stands (terms : Terms) (s : ClaimState) (id seat : ℕ) (v : SeatView) (stage : CellStage) : Type 0 where
  pub kept : Kept terms s
  pub hand : get_elem? s.views id ≡ some v
  pub cell : get_elem? s.views seat ≡ some (cell_view stage)

-- the hand's steps may lead to a table where the cell is at this stage, and these are the last events that it has seen
pub record Leads (terms : Terms) (id seat : ℕ) (v : SeatView) (es : Log) (stage : CellStage) : Type 0 where
  pub table : ClaimState
  pub view : SeatView
  pub stands : Stands terms table id seat view stage
  pub adds : AddsEvents v.log es view.log

-- an own place that a hand does not know begun may be begun and then filled, and the history gets that fill
abbrev pub BegunPlacesAreFilled : Type 0
BegunPlacesAreFilled =
    (terms : Terms) (s : ClaimState) (id seat place index : ℕ) (v : SeatView)
    → FindsPlace terms v place seat → OwnsAt v index place → (Contains v.begun place → ⊥)
    → Stands terms s id seat v stages.Idle
    → Leads terms id seat v (fill_event index place ∷ []) stages.Filled

-- nobody else can have begun it
abbrev pub UnknownPlacesAreNotBegun : Type 0
UnknownPlacesAreNotBegun =
    (terms : Terms) (s : ClaimState) (id seat place index : ℕ) (v : SeatView)
    → FindsPlace terms v place seat → OwnsAt v index place → (Contains v.begun place → ⊥)
    → Stands terms s id seat v stages.Begun
    → ⊥

-- the hand's steps may lead to a table where the place has a cell that is idle, which the hand knows
pub record Publishes (terms : Terms) (id place : ℕ) (v : SeatView) : Type 0 where
  pub table : ClaimState
  pub seat : ℕ
  pub view : SeatView
  pub stands : Stands terms table id seat view stages.Idle
  pub found : FindsPlace terms view place seat

-- a whole hand may make an entry for a place past all entries, lay a block of one cell, and set the entry to it
abbrev pub PlacesArePublished : Type 0
PlacesArePublished =
    (terms : Terms) (s : ClaimState) (id place : ℕ) (v : SeatView) → IsHandSeat terms v → v.shares ≡ all_shares
    → v.laid ≤ place
    → terms.base ≤ place → Kept terms s → get_elem? s.views id ≡ some v → Publishes terms id place v
