-- Places next to each other that a growth fills together.
use Rattle.std.specs.Prelude.{◌≡◌, ℕ, ◌+◌, ◌<◌, ◌≤◌, List, ◌++◌, Some, length, map, take, drop, slice_get}
use Rattle.std.specs.Vec.Iter.{into_iter_items, into_iter_len}
use Rattle.std.specs.declared.vec.IntoIter.{IntoIter}
use Rattle.cell_core.specs.Block.{IsMemberAt}
use Rattle.cell_core.specs.Member.{MemberView}
use Rattle.table_core.specs.Table.{IsKeyIn, IsBlockOf}
use Rattle.grow_core.specs.declared.stretch.Stretch.{Stretch}
use Rattle.grow_core.specs.Token.{place_in}
use Rattle.grow_core.specs.Vector.{VectorView, layout_of}
use Rattle.grow_core.specs.Parts.{values_in}

-- the number of values that are left is that of their list
abbrev pub IsCounted : {T A : Type 0} → IntoIter T A → Type 0
IsCounted values = into_iter_len values ≡ length (into_iter_items values)

-- the places from this one on have these values: they are cells of one segment of the vector, and it is known of
-- each that it is filled
pub record IsStretchOf {T : Type 0} (vector : VectorView T) (from : ℕ) (values : List T) (stretch : Stretch T)
    : Type 0 where
  pub key : IsKeyIn vector.segments stretch.key
  pub long : IsBlockOf (layout_of vector) stretch.key.segment stretch.key.block
  pub place : place_in (layout_of vector) stretch.key.segment stretch.offset ≡ from
  pub n : stretch.n ≡ length values
  pub members : (i : ℕ) (m : MemberView T) → slice_get stretch.row i ≡ Some m
      → IsMemberAt stretch.key.block (stretch.offset + i) m
  pub hold : values_in stretch.row ≡ map Some values

-- the stretch took the first of the values that were left, one or more
pub record Takes {T A : Type 0} (vector : VectorView T) (from : ℕ) (old new : IntoIter T A) (stretch : Stretch T)
    : Type 0 where
  pub values : List T
  pub is : IsStretchOf vector from values stretch
  pub some : 0 < stretch.n
  pub first : into_iter_items old ≡ values ++ into_iter_items new
  pub counted : IsCounted new

-- n of the values, from this number on
abbrev pub values_from : {T : Type 0} → List T → ℕ → ℕ → List T
values_from values first n = take n (drop first values)

-- the stretch took the values from this number on, one or more, and `left` of them at most
pub record TakesFrom {T : Type 0} (vector : VectorView T) (from : ℕ) (values : List T) (first left : ℕ)
    (stretch : Stretch T) : Type 0 where
  pub is : IsStretchOf vector from (values_from values first stretch.n) stretch
  pub some : 0 < stretch.n
  pub few : stretch.n ≤ left
