-- The members that are left, when a loop over places takes the first of them at each place.
use Rattle.std.proofs.Common.{◌≡◌, ℕ, ◌+◌, ◌<◌, Option, None, List, slice_index_or, drop, ap, ◌∙◌, Bor}
use Rattle.quiet_core.specs.Between.{between}
use Rattle.quiet_core.proofs.Betweens.{between_at, between_next}
use Rattle.span_core.specs.Loops.{AnswersAt, AnswersFirst}

module _ {T U : Type 0} (post : ℕ → Option (Bor T) → U → Type 0) (members left : List (Option T)) (place to : ℕ) (some : place < to) (is : left ≡ between members place to) where
  -- the first of those from a place on is the member there
  pub answers-at : (answer : U) → AnswersFirst post left place answer → AnswersAt post members place answer
  answers-at answer (item, first, given) =
      (item, first ∙ ap (λ (l : List (Option T)). slice_index_or l 0 None) is ∙ between_at members place to None some, given)

  -- and then those from the next place on are left
  pub left-next : (rest : List (Option T)) → rest ≡ drop 1 left → rest ≡ between members (place + 1) to
  left-next rest next = next ∙ ap (λ (l : List (Option T)). drop 1 l) is ∙ between_next members place to some
