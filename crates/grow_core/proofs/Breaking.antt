-- The tokens of places that are broken one by one.
use Rattle.std.proofs.Common.{◌≡◌, ℕ, zero, suc, ◌+◌, List, [], ◌∷◌, ◌++◌, length, Some, ap, ⊎_elim, arith}
use Rattle.std.specs.Prelude.{slice_get}
use Rattle.std.proofs.lemmas.List.Elements.{All-append}
use Rattle.grow_core.specs.Token.{SpoiltView}
use Rattle.grow_core.specs.Vector.{VectorView, IsSpoiltOf}
use Rattle.grow_core.specs.BrokenRun.{AreBrokenFrom}
use Rattle.grow_core.proofs.Filling.{all_none, all_one, slice_get-append}

one_place : (from : ℕ) (token : SpoiltView) → token.place ≡ from → (i : ℕ) (t : SpoiltView) → slice_get (token ∷ []) i ≡ Some t → t.place ≡ from + i
one_place from token here zero t h = let same : token ≡ t = cc in omega (arith, here, ap (λ (u : SpoiltView). u.place) same)
one_place from token here (suc i) t h = absurd (cc)

module _ {T : Type 0} (vector : VectorView T) (from : ℕ) where
  -- no place is broken yet
  pub none_broken : AreBrokenFrom vector from []
  none_broken = record { of = all_none (IsSpoiltOf vector); places = λ i token h. absurd (cc) }

  -- the next place is broken too
  pub more_broken : (tokens : List SpoiltView) (token : SpoiltView) → AreBrokenFrom vector from tokens → IsSpoiltOf vector token
      → token.place ≡ from + length tokens → AreBrokenFrom vector from (tokens ++ token ∷ [])
  more_broken tokens token are of here = record {
    of = All-append (IsSpoiltOf vector) tokens (token ∷ []) are.of (all_one (IsSpoiltOf vector) token of);
    places = λ i t h. ⊎_elim
        (λ (left : slice_get tokens i ≡ Some t). are.places i t left)
        (λ (right : (j : ℕ) × (i ≡ length tokens + j) × (slice_get (token ∷ []) j ≡ Some t)). omega (arith, one_place (from + length tokens) token here right.0 t right.2, right.1))
        (slice_get-append tokens (token ∷ []) i t h);
  }
