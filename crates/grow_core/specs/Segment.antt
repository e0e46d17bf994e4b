-- A segment of the vector as a growth fills it.
use Rattle.std.specs.Prelude.{◌≡◌}
use Rattle.seg_core.specs.Segment.{segment_start, segment_end}
use Rattle.table_core.specs.Table.{IsKeyIn, IsBlockOf, IsTiedBlockOf}
use Rattle.claim_core.specs.Hand.{HandView}
use Rattle.grow_core.specs.declared.fill.Segment.{Segment}
use Rattle.grow_core.specs.Vector.{VectorView}
use Rattle.grow_core.specs.Ties.{KnowsRow}

-- it is a segment of this vector, from its first place to its end
pub record IsSegmentOf {T : Type 0} (vector : VectorView T) (segment : Segment T) : Type 0 where
  pub key : IsKeyIn vector.segments segment.key
  pub block : segment.block.now ≡ segment.key.block
  pub long : IsBlockOf vector.segments.layout segment.key.segment segment.key.block
  pub by : IsTiedBlockOf vector.segments segment.key.segment segment.key.block
  pub first : segment.from ≡ segment_start vector.segments.layout segment.key.segment
  pub last : segment.end ≡ segment_end vector.segments.layout segment.key.segment

-- the hand knows where its places stand, if their cells are tied
abbrev pub KnowsSegment : {T : Type 0} → HandView → Segment T → Type 0
KnowsSegment hand segment = KnowsRow hand segment.key.segment segment.key.block
