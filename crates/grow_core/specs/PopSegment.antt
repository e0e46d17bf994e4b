-- How the members of an owner's list are moved out of it, last one first.
use Rattle.std.specs.Prelude.{◌≡◌, ℕ, ◌+◌, ◌<◌, ◌≤◌, List, ◌++◌, Option, Some, None, map, reverse, length, slice_get}
use Rattle.cell_core.specs.Block.{BlockView, block_len, cell_at}
use Rattle.cell_core.specs.Member.{MemberView}
use Rattle.grow_core.specs.Parts.{values_in}

-- no member is broken
abbrev pub IsUnbroken : {T : Type 0} → List (Option T) → Type 0
IsUnbroken members = (i : ℕ) → slice_get members i ≡ Some None → ⊥

-- what is known of a cell is that it has a value
abbrev pub IsFilled : {T : Type 0} → MemberView T → Type 0
IsFilled m = m.value ≡ None → ⊥

-- the values that a list got at its end are the last members, last one first
abbrev pub MovesLast : {T : Type 0} → List (Option T) → List (Option T) → List T → List T → Type 0
MovesLast {T} old new had has = (moved : List T) × (has ≡ had ++ moved) × (old ≡ new ++ map Some (reverse moved))

-- the last k of the first n cells of a block gave up their values, and a row what was known of them. Each other cell is
-- as it was
pub record PopsValues {T : Type 0} (old new : BlockView) (n : ℕ) (old_row new_row : List (MemberView T))
    (had has : List T) (k : ℕ) : Type 0 where
  pub len : block_len new ≡ block_len old
  pub before : (q : ℕ) → q + k < n → cell_at new q ≡ cell_at old q
  pub after : (q : ℕ) → n ≤ q → cell_at new q ≡ cell_at old q
  pub popped : List (MemberView T)
  pub all : length popped ≡ k
  pub row : old_row ≡ new_row ++ popped
  pub moved : MovesLast (values_in old_row) (values_in new_row) had has
