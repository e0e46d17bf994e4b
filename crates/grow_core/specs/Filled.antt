-- The knowledge that a growth has of its filled places.
use Rattle.std.specs.Prelude.{◌≡◌, ℕ, ◌+◌, ◌-◌, ◌<◌, List, Some, length, map, slice_get, slice_index}
use Rattle.seg_core.specs.Segment.{segment_start, segment_count, segment_of, most_segments}
use Rattle.cell_core.specs.Block.{BlockView, IsMemberAt}
use Rattle.cell_core.specs.Member.{MemberView}
use Rattle.table_core.specs.Table.{KeySetView, IsBlockOf, block_in}
use Rattle.grow_core.specs.declared.filled.Filled.{Filled}
use Rattle.grow_core.specs.declared.stretch.Stretch.{Stretch}
use Rattle.grow_core.specs.Vector.{VectorView, layout_of}
use Rattle.grow_core.specs.Parts.{values_in}
use Rattle.grow_core.specs.Stretch.{IsStretchOf}

-- the segment is one of the layout, its key is in the set, and this is known of the cell of a place of it
pub record IsKnownIn {T : Type 0} (f : ℕ) (keys : KeySetView) (segment place : ℕ) (m : MemberView T) : Type 0 where
  pub few : segment < segment_count f
  pub small : segment < most_segments
  pub block : BlockView
  pub key : block_in keys segment ≡ Some block
  pub long : IsBlockOf f segment block
  pub member : IsMemberAt block (place - segment_start f segment) m

-- this is known of the cell of a place
abbrev pub IsKnownAt : {T : Type 0} → ℕ → KeySetView → ℕ → MemberView T → Type 0
IsKnownAt f keys place m = IsKnownIn f keys (segment_of f place) place m

-- the places from this one on have these values: the keys are of the vector, and it is known of each place that it is
-- filled
pub record IsFilledOf {T : Type 0} (vector : VectorView T) (from : ℕ) (values : List T) (filled : Filled T)
    : Type 0 where
  pub layout : filled.keys.layout ≡ layout_of vector
  pub names : (segment : ℕ) → segment < most_segments
      → slice_index filled.keys.names segment ≡ slice_index vector.segments.names segment
  pub members : (i : ℕ) (m : MemberView T) → slice_get filled.row i ≡ Some m
      → IsKnownAt (layout_of vector) filled.keys (from + i) m
  pub hold : values_in filled.row ≡ map Some values

-- the stretch has the places after those that are filled, and these values
pub record IsNextStretch {T : Type 0} (vector : VectorView T) (from : ℕ) (done values : List T) (filled : Filled T)
    (stretch : Stretch T) : Type 0 where
  pub known : IsFilledOf vector from done filled
  pub next : IsStretchOf vector (from + length done) values stretch
