-- A run of cells: neighbours whose states are in one word, which one call has begun by one step.
use Rattle.std.specs.Prelude.{◌≡◌, ℕ, zero, suc, ◌+◌, ◌*◌, ◌^◌, ◌<◌, ◌≤◌, Bool, true, false, eqb, Option, Some, None, List, [], ◌∷◌, length}
use base.Stored.{Coded, coded×, coded_ℕ, coded_list, coded_via}
use base.Fml.{Lft, GName, Fml, ftrue, ffalse, fsep, fex}
use denote.RattleType.{RattleType}
use denote.RawPtr.{Ptr, block_ptr, null_ptr}
use Rattle.cell_core.specs.Fields.{field}
use Rattle.cell_core.specs.Block.{BlockView, PenView, IsFresh}
use Rattle.cell_core.specs.Member.{MemberView, members}
use Rattle.tie_core.specs.Tie.{Tie}
use Rattle.cell_core.specs.Slot.{Names, ArePlain, names_coded, Turn, Spot, fact, filled_state, full, cell_in, step, room_at, over, setting, sights, right_of, tie, lent, kept}

-- the cells from an index on have these names
abbrev pub AreAt : List Names → ℕ → List Names → Type 0
AreAt [] i Γs = Unit {0}
AreAt (γ ∷ γs) i Γs = (i < length Γs) × (cell_in Γs i ≡ γ) × AreAt γs (suc i) Γs

-- the names of n cells from an index on
abbrev pub cells_from : ℕ → ℕ → List Names → List Names
cells_from zero i Γs = []
cells_from (suc n) i Γs = cell_in Γs i ∷ cells_from n (suc i) Γs

-- some cells are tied to these seats, in order
abbrev pub AreTiedTo : List Tie → List Names → Type 0
AreTiedTo [] [] = Unit {0}
AreTiedTo [] (γ ∷ γs) = ⊥
AreTiedTo (t ∷ ts) [] = ⊥
AreTiedTo (t ∷ ts) (γ ∷ γs) = (γ.tied ≡ Some t) × AreTiedTo ts γs

-- the cells are not tied, if cells of this kind are not
pub record AreRunOfKind (tied : Bool) (γs : List Names) : Type 0 where
  pub plain : tied ≡ false → ArePlain γs

-- the word has the state of an empty cell in each of some fields
abbrev pub AreEmptyIn : ℕ → ℕ → ℕ → Type 0
AreEmptyIn word i n = (j : ℕ) → i ≤ j → j < i + n → field word j ≡ 0

-- the word has the state of a filled cell in each of some fields
abbrev pub AreFilledIn : ℕ → ℕ → ℕ → Type 0
AreFilledIn word i n = (j : ℕ) → i ≤ j → j < i + n → field word j ≡ filled_state

-- what an exchange gains that found what it sought
abbrev pub if_won : Bool → Fml → Fml
if_won true P = P
if_won false P = ftrue

-- what is known of cells that have these values
abbrev pub members_of : {T : Type 0} → List Names → List T → List (MemberView T)
members_of [] xs = []
members_of (γ ∷ γs) [] = []
members_of (γ ∷ γs) (x ∷ xs) = record { value = Some x; name = γ.value_name; epoch = [] } ∷ members_of γs xs

-- a run of cells: where it begins, their names, and the values that are written, in order
pub record RunView (T : Type 0) : Type 0 where
  pub offset : ℕ
  pub cells : List Names
  pub values : List T

-- how that is stored
abbrev pub run_coded : {T : Type 0} → Coded T → Coded (RunView T)
run_coded {T} c =
    coded_via (coded× coded_ℕ (coded× (coded_list names_coded) (coded_list c)))
    (λ (r : RunView T). (r.offset, (r.cells, r.values)))
    (λ x y e i. record { offset = (e i).0; cells = (e i).1.0; values = (e i).1.1 })

-- the first cell of a run, and the run of those after it, if there are any; no value is written
abbrev pub PartsFirst : {T : Type 0} → RunView T → PenView → Option (RunView T) → Type 0
PartsFirst run pen None = (pen.offset ≡ run.offset) × IsFresh pen × (run.cells ≡ pen.cell ∷ [])
PartsFirst run pen (Some rest) =
    (pen.offset ≡ run.offset) × IsFresh pen × (run.cells ≡ pen.cell ∷ rest.cells)
    × (rest.offset ≡ run.offset + 1) × (rest.values ≡ []) × (0 < length rest.cells)

-- the pen is of the n cells of the block from an offset on, and none is written
pub record IsRunPenAt {T : Type 0} (block : BlockView) (offset n : ℕ) (pen : RunView T) : Type 0 where
  pub at : pen.offset ≡ offset
  pub cells : pen.cells ≡ cells_from n offset block.cells
  pub values : pen.values ≡ []

module _ (R : RattleType) where
  -- a cell that has its value, which nobody sees yet, by whether the cell is begun and not busy
  abbrev pub Ready : Bool → Names → Lft → GName → ℕ → ℕ → R.Denot → Fml
  Ready first γ α δ b e x = fsep (fsep (over R γ) (setting R γ first))
      (fsep (tie R γ α δ b e (full x)) (lent R γ α δ b e (full x)))

  -- what a run has of its cells, in a turn of their word: the first have their values, and the others can be written
  abbrev pub held : Bool → Turn → ℕ → ℕ → List Names → ℕ → List R.Denot → Fml
  held first t b e [] i xs = ftrue
  held first t b e (γ ∷ γs) i [] = fsep (right_of R γ t.0 (t.1 i) b (room_at R e i) first)
      (held first t b e γs (suc i) [])
  held first t b e (γ ∷ γs) i (x ∷ xs) = fsep (Ready first γ t.0 (t.1 i) b (room_at R e i) x)
      (held first t b e γs (suc i) xs)

  -- what shows the values of the cells
  abbrev pub all_written : List Names → List R.Denot → Fml
  all_written γs xs = members R (members_of γs xs)

  -- what a load of a word showed of some neighbours, whose fields begin at an index
  abbrev pub sights_owned : List Names → ℕ → ℕ → Fml
  sights_owned [] i word = ftrue
  sights_owned (γ ∷ γs) i word = fsep (sights R γ (field word i)) (sights_owned γs (suc i) word)

  -- the cells are at a spot from an index on, the room of the first one lies at an offset, and their rooms fit in
  -- memory
  abbrev pub IsRunAt : List Names → ℕ → ℕ → Spot → Type 0
  IsRunAt γs i r z = AreAt γs i z.0 × (length z.0 ≤ 16) × (room_at R z.2 i ≡ r) × (length γs * step R < 2 ^ 63)

  -- a lending of some neighbours for κ
  abbrev pub cells_owned : List Names → Lft → Ptr → Ptr → ℕ → Fml
  cells_owned γs κ (block_ptr b o) (block_ptr c r) i =
      fex Spot (λ z. fsep (fact (IsRunAt γs i r z)) (kept R z.0 z.1 b o c z.2 κ))
  cells_owned γs κ (block_ptr b o) null_ptr i = ffalse
  cells_owned γs κ null_ptr q i = ffalse

  -- what a run owns, in cells that are lent for κ
  abbrev pub run_owned : List Names → Lft → Ptr → Ptr → ℕ → Bool → ℕ → ℕ → List R.Denot → Fml
  run_owned γs κ (block_ptr b o) (block_ptr c r) i first sought found xs =
      fex Spot (λ z. fsep (fact (IsRunAt γs i r z))
      (fsep (kept R z.0 z.1 b o c z.2 κ) (if_won (eqb found sought) (held first z.1 c z.2 γs i xs))))
  run_owned γs κ (block_ptr b o) null_ptr i first sought found xs = ffalse
  run_owned γs κ null_ptr q i first sought found xs = ffalse
