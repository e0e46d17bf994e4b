-- Members of an owner's list that lie side by side.
use Rattle.std.specs.Prelude.{◌≡◌, ℕ, ◌+◌, ◌≤◌, ◌⊎◌, List, Option, None, Some, slice_get}
use Rattle.seg_core.specs.Segment.{segment_end, segment_of}

-- the n places from this one on are of one segment
abbrev pub IsInOneSegment : ℕ → ℕ → ℕ → Type 0
IsInOneSegment f place n = place + n ≤ segment_end f (segment_of f place)

-- they are all up to the end of the segment, or of the list
abbrev pub IsToTheEnd : ℕ → ℕ → ℕ → ℕ → Type 0
IsToTheEnd f place n len = (place + n ≡ segment_end f (segment_of f place)) ⊎ (place + n ≡ len)

-- one of the members is broken
abbrev pub HasBroken : {T : Type 0} → List (Option T) → Type 0
HasBroken members = (i : ℕ) × (slice_get members i ≡ Some None)
