-- The shares that the hands of a vector have together.
use Rattle.std.specs.Prelude.{ℕ}

-- the shares of a whole hand
abbrev pub all_shares : ℕ
all_shares = 65536
