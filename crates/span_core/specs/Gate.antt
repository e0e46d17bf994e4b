-- Gates that two workers pass together.
use Rattle.std.specs.Prelude.{ℕ}

-- how often a worker of the pair looks whether the other came
pub record PairView : Type 0 where
  pub turns : ℕ
