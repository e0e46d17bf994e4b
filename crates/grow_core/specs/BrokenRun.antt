-- Places next to each other that are broken.
use Rattle.std.specs.Prelude.{◌≡◌, ℕ, ◌+◌, List, All, Some, length, slice_get}
use Rattle.std.specs.List.{FoldsTo}
use Rattle.grow_core.specs.Token.{SpoiltView}
use Rattle.grow_core.specs.Vector.{VectorView, IsSpoiltOf}

-- the tokens are of broken places next to each other, from this one on
pub record AreBrokenFrom {T : Type 0} (vector : VectorView T) (from : ℕ) (tokens : List SpoiltView) : Type 0 where
  pub of : All (IsSpoiltOf vector) tokens
  pub places : (i : ℕ) (token : SpoiltView) → slice_get tokens i ≡ Some token → token.place ≡ from + i

-- there are n of them, and they were kept one by one, in order: each step of the keeper has it before, a token, and it
-- after
pub record AreKeptBroken {K T : Type 0} (step : K → SpoiltView → Unit {0} → K → Type 0) (old new : K)
    (vector : VectorView T) (from n : ℕ) : Type 0 where
  pub tokens : List SpoiltView
  pub kept : FoldsTo (λ k token next. step k token tt next) old tokens new
  pub are : AreBrokenFrom vector from tokens
  pub all : length tokens ≡ n
