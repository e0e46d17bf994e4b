-- Words that make elements side by side.
use Rattle.std.specs.Prelude.{◌≡◌, ℕ, ◌<◌, ◌/◌, ◌%◌, List, length}

-- these words make n elements of this many words each, and none is left over
pub record AreElements (width : ℕ) (words : List ℕ) (n : ℕ) : Type 0 where
  pub some : 0 < width
  pub count : n ≡ length words / width
  pub all : length words % width ≡ 0
