-- Cells whose ties are fixed at a stage: they have no seat, and it is known how far each is.
use Rattle.std.specs.Prelude.{◌≡◌, ◌≢◌, ◌↔◌, ℕ, suc, Option, Some, None, List, [], ◌∷◌, slice_get, slice_set}
use base.Fml.{Lft}
use Rattle.tie_core.specs.Tie.{Tie, Stage, Filled, Broken, Shows, IsTied, fixed_at}
use Rattle.cell_core.specs.Fields.{field}
use Rattle.cell_core.specs.Slot.{Names, cell_in}
use Rattle.cell_core.specs.Laid.{IsFixedAt}

-- the stage that a tie is fixed at, if it is
abbrev pub fixed_in : Option Tie → Option Stage
fixed_in None = None
fixed_in (Some t) = t.fixed

-- the same of the tie of a cell
abbrev pub stage_in : Names → Option Stage
stage_in γ = fixed_in γ.tied

-- the same cell, its tie fixed at a stage
abbrev pub fixed_cell : Names → Stage → Names
fixed_cell γ s = record γ { tied = fixed_at γ.tied s }

-- the same cell without its tie
abbrev pub untied_cell : Names → Names
untied_cell γ = record γ { tied = None }

-- the same cell with this tie
abbrev pub tied_cell : Names → Option Tie → Names
tied_cell γ τ = record γ { tied = τ }

-- the same of some cells, which get these ties in order
abbrev pub tied_cells : List (Option Tie) → List Names → List Names
tied_cells [] γs = []
tied_cells (τ ∷ τs) [] = []
tied_cells (τ ∷ τs) (γ ∷ γs) = tied_cell γ τ ∷ tied_cells τs γs

-- each of some ties is one
abbrev pub AreTies : List (Option Tie) → Type 0
AreTies [] = Unit {0}
AreTies (τ ∷ τs) = IsTied τ × AreTies τs

-- each cell is fixed at its stage of these
abbrev pub AreAtStages : List Stage → List Names → Type 0
AreAtStages stages γs = (i : ℕ) (s : Stage) → slice_get stages i ≡ Some s → stage_in (cell_in γs i) ≡ Some s

-- each cell that is broken by its stage of these was broken for this epoch
abbrev pub AreBrokenFor : List Stage → List Names → Lft → Type 0
AreBrokenFor stages γs epoch = (i : ℕ) → slice_get stages i ≡ Some Broken → (cell_in γs i).epoch ≡ epoch

-- the cell at the index is fixed at a stage, so it has no seat; it keeps its names, and each other cell stays as it is
pub record FixesOne (old : List Names) (i : ℕ) (new : List Names) (s : Stage) : Type 0 where
  pub cells : new ≡ slice_set old i (fixed_cell (cell_in old i) s)
  pub tie : IsFixedAt old i new s
  pub stage : stage_in (cell_in new i) ≡ Some s

-- if the cell is fixed at a stage, it has a value exactly if this is the stage of a filled cell
abbrev pub HasValueByStage : {T : Type 0} → Names → Option T → Type 0
HasValueByStage γ value = (s : Stage) → stage_in γ ≡ Some s → (value ≢ None ↔ s ≡ Filled)

-- if the cell is fixed at a stage, the state is one of that stage
abbrev pub ShowsStage : Names → ℕ → Type 0
ShowsStage γ n = (s : Stage) → stage_in γ ≡ Some s → Shows s n

-- the same of some cells, whose states are in the fields of a word from an index on
abbrev pub ShowStages : List Names → ℕ → ℕ → Type 0
ShowStages [] i word = Unit {0}
ShowStages (γ ∷ γs) i word = ShowsStage γ (field word i) × ShowStages γs (suc i) word
