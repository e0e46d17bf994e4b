-- Spans of places, and what they are cut into.
use Rattle.std.specs.Prelude.{ℕ, ◌+◌, ◌-◌, ◌*◌, ◌/◌, ◌<◌, ◌≤◌, max, min, List, [], ◌∷◌, ◌++◌}

-- the places from one on and before another; spans of more places than the grain are to be cut
pub record Interval : Type 0 where
  pub from : ℕ
  pub to : ℕ
  pub grain : ℕ

-- a span may be so
pub record IsSpan (span : Interval) : Type 0 where
  pub ordered : span.from ≤ span.to
  pub positive : 0 < span.grain

-- how many places there are
abbrev pub size_of : Interval → ℕ
size_of span = span.to - span.from

-- it has more places than the grain
abbrev pub IsDivisible : Interval → Type 0
IsDivisible span = span.grain < size_of span

-- its middle, rounded down: where it is divided
abbrev pub middle_of : Interval → ℕ
middle_of span = span.from + size_of span / 2

-- the half up to the middle
abbrev pub lower_half : Interval → Interval
lower_half span = record span { to = middle_of span }

-- the half from the middle on
abbrev pub upper_half : Interval → Interval
upper_half span = record span { from = middle_of span }

-- how many of the places are the first part in the ratio of two numbers: rounded down, but neither part is empty
abbrev pub first_part : ℕ → ℕ → ℕ → ℕ
first_part size left right = max 1 (min (size * left / (left + right)) (size - 1))

-- the first part
abbrev pub lower_part : Interval → ℕ → ℕ → Interval
lower_part span left right = record span { to = span.from + first_part (size_of span) left right }

-- the rest
abbrev pub upper_part : Interval → ℕ → ℕ → Interval
upper_part span left right = record span { from = span.from + first_part (size_of span) left right }

-- the leaves of a span: itself if it is not divisible, otherwise the leaves of its two halves in order
pub data AreLeaves : Interval → List Interval → Type 0 where
  itself : (span : Interval) → size_of span ≤ span.grain → AreLeaves span (span ∷ [])
  halves : (span : Interval) (lower upper : List Interval) → IsDivisible span → AreLeaves (lower_half span) lower
      → AreLeaves (upper_half span) upper → AreLeaves span (lower ++ upper)
