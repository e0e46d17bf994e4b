-- What holds of all segments of a layout.
use Rattle.std.specs.Prelude.{◌≡◌, ℕ, ◌+◌, ◌<◌}
use Rattle.seg_core.specs.Segment.{segment_start, segment_end, HasPlace, segment_of}

-- a place is in its segment's interval
abbrev pub IsInItsSegment : Type 0
IsInItsSegment = (f place : ℕ) → HasPlace f (segment_of f place) place

-- no place is in two intervals
abbrev pub OneSegment : Type 0
OneSegment = (f j k place : ℕ) → HasPlace f j place → HasPlace f k place → j ≡ k

-- a segment and an offset that stays in it are one place, and no other pair is that place
abbrev pub OnePlace : Type 0
OnePlace =
    (f j k i o : ℕ) → segment_start f j + i < segment_end f j → segment_start f k + o < segment_end f k
    → segment_start f j + i ≡ segment_start f k + o → (j ≡ k) × (i ≡ o)
