-- Segments: the intervals into which a layout cuts the places. With a first one of 2^f places they are [0,
-- 2^f),
-- [2^f, 2^(f+1)), [2^(f+1), 2^(f+2)), ..
use Rattle.std.specs.Prelude.{ℕ, ◌+◌, ◌-◌, ◌^◌, ◌<◌, ◌≤◌, nat_lt, true, false, zero, suc}

-- a layout: its first segment has from 2 to 256 places
abbrev pub IsLayout : ℕ → Type 0
IsLayout f = (1 ≤ f) × (f ≤ 8)

-- the place after a segment's last
abbrev pub segment_end : ℕ → ℕ → ℕ
segment_end f k = 2 ^ (k + f)

-- a segment's first place: the first segment's is 0, and each other begins where the one before it ends
abbrev pub segment_start : ℕ → ℕ → ℕ
segment_start f zero = 0
segment_start f (suc k) = segment_end f k

-- the segment's interval has the place
pub record HasPlace (f segment place : ℕ) : Type 0 where
  pub from : segment_start f segment ≤ place
  pub before : place < segment_end f segment

-- the first segment from this one on that ends after the place, of this one and the given number of next ones
abbrev pub first_ending_after : ℕ → ℕ → ℕ → ℕ → ℕ
first_ending_after f zero segment place = segment
first_ending_after f (suc further) segment place =
    elim (nat_lt place (segment_end f segment)) [
      | true ↦ segment
      | false ↦ first_ending_after f further
          (segment + 1) place
    ]

-- the segment of a place
unfoldable pub segment_of : ℕ → ℕ → ℕ
segment_of f place = first_ending_after f place 0 place

-- some place of the run of n places from a place on is the segment's
pub record Touches (f segment from n : ℕ) : Type 0 where
  pub place : ℕ
  pub inside : (from ≤ place) × (place < from + n)
  pub there : HasPlace f segment place

-- the most places that there may be, 2^40
abbrev pub most_places : ℕ
most_places = 1099511627776

-- the most segments that they are cut into: those of the shortest first segment
abbrev pub most_segments : ℕ
most_segments = 40

-- how many segments they are cut into
abbrev pub segment_count : ℕ → ℕ
segment_count f = 41 - f

-- a limit: a vector may have this number of places
abbrev pub IsLimit : ℕ → Type 0
IsLimit limit = (1 ≤ limit) × (limit ≤ most_places)
