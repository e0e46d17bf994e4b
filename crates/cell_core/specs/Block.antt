-- A block of cells as callers see it, and what is seen of its pens and tokens.
use Rattle.std.specs.Prelude.{◌≡◌, ◌≢◌, ℕ, ◌+◌, ◌<◌, List, Some, None, length, slice_get}
use base.Stored.{Coded, coded×, coded_ℕ, coded_list, coded_via}
use Rattle.cell_core.specs.Slot.{Names, IsPlain, names_coded, cell_in, empty_state, filled_state}
use Rattle.tie_core.specs.Tie.{Stage, Filled}
use Rattle.cell_core.specs.Laid.{IsAnother, IsFixedAt}
use Rattle.cell_core.specs.Fixed.{FixesOne, stage_in}
use Rattle.cell_core.specs.Member.{MemberView, HasNames}

-- a block: the names of each cell
pub record BlockView : Type 0 where
  pub cells : List Names

-- how a block is stored
abbrev pub block_coded : Coded BlockView
block_coded = coded_via (coded_list names_coded) (λ (b : BlockView). b.cells) (λ x y e i. record { cells = e i })

-- the right to write a cell: its offset, the names of the cell, and the state that the step found there
pub record PenView : Type 0 where
  pub offset : ℕ
  pub cell : Names
  pub found : ℕ

-- how a pen is stored
abbrev pub pen_coded : Coded PenView
pen_coded = coded_via (coded× coded_ℕ (coded× names_coded coded_ℕ)) (λ (p : PenView). (p.offset, (p.cell, p.found)))
    (λ x y e i. record { offset = (e i).0; cell = (e i).1.0; found = (e i).1.1 })

-- the token of a filled cell: its offset, its value, and the name that the value has; and in the writer's own
-- token the state that its step found there
pub record PlacedView (T : Type 0) : Type 0 where
  pub offset : ℕ
  pub value : T
  pub name : ℕ
  pub found : ℕ

-- how a token is stored
abbrev pub placed_coded : {T : Type 0} → Coded T → Coded (PlacedView T)
placed_coded {T} c =
    coded_via (coded× coded_ℕ (coded× c (coded× coded_ℕ coded_ℕ)))
    (λ (p : PlacedView T). (p.offset, (p.value, (p.name, p.found))))
    (λ x y e i. record { offset = (e i).0; value = (e i).1.0; name = (e i).1.1.0; found = (e i).1.1.1 })

-- the token of a broken cell: its offset, and the name that says so
pub record SpoiltView : Type 0 where
  pub offset : ℕ
  pub name : ℕ

-- the token of a cell that another call began: its offset, and the names of the cell
pub record BegunView : Type 0 where
  pub offset : ℕ
  pub cell : Names

-- how it is stored
abbrev pub begun_coded : Coded BegunView
begun_coded = coded_via (coded× coded_ℕ names_coded) (λ (b : BegunView). (b.offset, b.cell))
    (λ x y e i. record { offset = (e i).0; cell = (e i).1 })

-- how many cells the block has
abbrev pub block_len : BlockView → ℕ
block_len block = length block.cells

-- the names of the cell at the offset
abbrev pub cell_at : BlockView → ℕ → Names
cell_at block offset = cell_in block.cells offset

-- the pen is for the cell at the offset
pub record IsPenAt (block : BlockView) (offset : ℕ) (pen : PenView) : Type 0 where
  pub at : pen.offset ≡ offset
  pub cell : pen.cell ≡ cell_at block offset

-- the state is that of a broken cell
abbrev pub IsBrokenState : ℕ → Type 0
IsBrokenState state = filled_state < state

-- the pen's step found the cell empty
abbrev pub IsFresh : PenView → Type 0
IsFresh pen = pen.found ≡ empty_state

-- the pen's step found the cell broken
abbrev pub IsMending : PenView → Type 0
IsMending pen = IsBrokenState pen.found

-- the token is the mender's own: its step found the cell broken
abbrev pub IsMended : {T : Type 0} → PlacedView T → Type 0
IsMended placed = IsBrokenState placed.found

-- the token is of a cell of the block
pub record IsPlacedIn {T : Type 0} (block : BlockView) (placed : PlacedView T) : Type 0 where
  pub within : placed.offset < block_len block
  pub named : placed.name ≡ (cell_at block placed.offset).value_name

-- the same for a broken cell
pub record IsSpoiltIn (block : BlockView) (spoilt : SpoiltView) : Type 0 where
  pub within : spoilt.offset < block_len block
  pub named : spoilt.name ≡ (cell_at block spoilt.offset).broken_name

-- the same for a cell that another call began
pub record IsBegunIn (block : BlockView) (begun : BegunView) : Type 0 where
  pub within : begun.offset < block_len block
  pub named : begun.cell ≡ cell_at block begun.offset

-- the token is of the cell at the offset
pub record IsPlacedAt {T : Type 0} (block : BlockView) (offset : ℕ) (placed : PlacedView T) : Type 0 where
  pub of : IsPlacedIn block placed
  pub at : placed.offset ≡ offset

-- the same for a broken cell
pub record IsSpoiltAt (block : BlockView) (offset : ℕ) (spoilt : SpoiltView) : Type 0 where
  pub of : IsSpoiltIn block spoilt
  pub at : spoilt.offset ≡ offset

-- the same for a cell that another call began
pub record IsBegunAt (block : BlockView) (offset : ℕ) (begun : BegunView) : Type 0 where
  pub of : IsBegunIn block begun
  pub at : begun.offset ≡ offset

-- this is known of the cell at the offset
pub record IsMemberAt {T : Type 0} (block : BlockView) (offset : ℕ) (m : MemberView T) : Type 0 where
  pub within : offset < block_len block
  pub known : HasNames (cell_at block offset) m.value m.name m.epoch

-- the cells from the offset on have values, by what is known of each
abbrev pub AreFilledFrom : {T : Type 0} → BlockView → ℕ → List (MemberView T) → Type 0
AreFilledFrom {T} block offset row =
    (i : ℕ) (m : MemberView T) → slice_get row i ≡ Some m → IsMemberAt block (offset + i) m × (m.value ≢ None)

-- each of n cells from the offset on that is fixed at a stage is at that of a filled cell
abbrev pub AreAtFilled : BlockView → ℕ → ℕ → Type 0
AreAtFilled block offset n =
    (i : ℕ) (s : Stage) → i < n → stage_in (cell_at block (offset + i)) ≡ Some s → s ≡ Filled

-- the cell after count cells from the offset on is at no stage of a filled one, if these are fewer than n
abbrev pub IsOtherAfter : BlockView → ℕ → ℕ → ℕ → Type 0
IsOtherAfter block offset count n =
    count < n → (s : Stage) → stage_in (cell_at block (offset + count)) ≡ Some s → s ≢ Filled

-- the cell at the offset has fresh names: no older token applies to it
abbrev pub RenewsCell : BlockView → BlockView → ℕ → Type 0
RenewsCell old new offset = IsAnother (cell_at old offset) (cell_at new offset)

-- the cell at the offset keeps its tie, fixed at a stage: it has no seat, and its stage is known
abbrev pub FixesTie : BlockView → BlockView → ℕ → Stage → Type 0
FixesTie old new offset s = IsFixedAt old.cells offset new.cells s

-- the same, and the cell keeps its names, and each other cell stays as it is
abbrev pub FixesCell : BlockView → BlockView → ℕ → Stage → Type 0
FixesCell old new offset s = FixesOne old.cells offset new.cells s

-- the cell at the offset is not tied if it was not
abbrev pub StaysPlain : BlockView → BlockView → ℕ → Type 0
StaysPlain old new offset = IsPlain (cell_at old offset) → IsPlain (cell_at new offset)

-- each cell but the one at the offset keeps its names
abbrev pub KeepsOtherCells : BlockView → BlockView → ℕ → Type 0
KeepsOtherCells old new offset = (q : ℕ) → q ≢ offset → cell_at new q ≡ cell_at old q
