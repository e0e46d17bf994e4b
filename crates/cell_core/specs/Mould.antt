-- How the cells of a block are tied, relative to the first: blocks with seats in a row have one mould, whatever the
-- numbers of their seats.
use Rattle.std.specs.Prelude.{ℕ, ◌+◌, ◌-◌, Option, Some, None, List, [], ◌∷◌, length}
use base.Stored.{gnil}
use Rattle.tie_core.specs.Tie.{Tie, row_of, tie_numbered}
use Rattle.cell_core.specs.Slot.{Names}

-- the number of a seat
abbrev pub id_of : Option Tie → ℕ
id_of None = 0
id_of (Some t) = t.id

-- the same tie, with its number counted from another one
abbrev pub relative : ℕ → Option Tie → Option Tie
relative k None = None
relative k (Some t) = Some (record t { id = t.id - k })

-- the same of each of some cells
abbrev pub relatives : ℕ → List Names → List (Option Tie)
relatives k [] = []
relatives k (γ ∷ γs) = relative k γ.tied ∷ relatives k γs

-- the number of the first cell's seat
abbrev pub first_seat : List Names → ℕ
first_seat [] = 0
first_seat (γ ∷ γs) = id_of γ.tied

-- how the cells are tied, by numbers that begin at 0
abbrev pub mould_of : List Names → List (Option Tie)
mould_of γs = relatives (first_seat γs) γs

-- the mould of n cells with seats in a row
abbrev pub row_mould : Tie → ℕ → List (Option Tie)
row_mould t n = row_of (tie_numbered t 0) n

-- the tie, of a cell that has one
abbrev pub tie_in : Option Tie → Tie
tie_in None = record {
  views = 0;
  id = 0;
  floor = 0;
  idle = gnil;
  begun = gnil;
  mending = gnil;
  filled = gnil;
  broken = gnil;
  fixed = None;
}
tie_in (Some t) = t

-- the number of the seat behind the cells' own, which their block has
abbrev pub last_seat : List Names → ℕ
last_seat γs = first_seat γs + length γs
