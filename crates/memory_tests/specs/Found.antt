-- What a step on an entry found, as a number.
use Rattle.std.specs.Prelude.{ℕ, ◌+◌, Some, None}
use Rattle.tie_core.specs.Visit.{Content}

-- 0 for nothing, and for a block one more than the number of its seat
abbrev pub content_number : Content → ℕ
content_number None = 0
content_number (Some k) = k + 1
