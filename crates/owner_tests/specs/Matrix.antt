-- Matrices of two rows and two columns, of numbers of 64 bits.
use Rattle.std.specs.Prelude.{ℕ, ◌+◌, ◌*◌, ◌%◌, ◌^◌, ◌<◌, Option, unwrap_or}

-- the first row, and the second
pub record MatrixView : Type 0 where
  pub a : ℕ
  pub b : ℕ
  pub c : ℕ
  pub d : ℕ

-- each number fits 64 bits
pub record IsMatrix (m : MatrixView) : Type 0 where
  pub a : m.a < 2 ^ 64
  pub b : m.b < 2 ^ 64
  pub c : m.c < 2 ^ 64
  pub d : m.d < 2 ^ 64

-- a row times a column, without what does not fit
abbrev pub dot : ℕ → ℕ → ℕ → ℕ → ℕ
dot a b c d = (a * c + b * d) % 2 ^ 64

-- the product
abbrev pub times : MatrixView → MatrixView → MatrixView
times m n =
    record { a = dot m.a m.b n.a n.c; b = dot m.a m.b n.b n.d; c = dot m.c m.d n.a n.c; d = dot m.c m.d n.b n.d }

abbrev pub identity : MatrixView
identity = record { a = 1; b = 0; c = 0; d = 1 }

-- the step of a continued fraction by this member, or by 0 for a broken one
abbrev pub step_of : Option ℕ → MatrixView
step_of member = record { a = unwrap_or member 0; b = 1; c = 1; d = 0 }
