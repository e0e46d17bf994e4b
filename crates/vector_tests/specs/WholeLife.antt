-- A vector that is opened, used, closed, and opened again.
use Rattle.std.specs.Prelude.{◌≡◌, ◌<◌, ℕ, List, Option, Some, IfSome, slice_get}
use Rattle.claim_core.specs.Hand.{HandView, seen_size}
use Rattle.claim_core.specs.History.{Log, IsHistoryOf}
use Rattle.grow_core.specs.Closing.{IsListOfHistory}
use Rattle.grow_core.specs.Logs.{IsFinishedIn}
use Rattle.grow_core.specs.Token.{PlacedView}
use Rattle.grow_core.specs.Vector.{VectorView, IsPlacedOf, BeginsAsOpened, base_of, limit_of}

-- a token of the vector that has this value. The hand has seen its place claimed, and filled in the history
pub record IsKept {T : Type 0} (vector : VectorView T) (hand : HandView) (given : T) (p : PlacedView T) : Type 0 where
  pub of : IsPlacedOf vector p
  pub value : p.value ≡ given
  pub below : p.place < seen_size hand
  pub filled : IsFinishedIn hand.log p.place

-- what a token says, if there is one: the member at this place is this value
abbrev pub IsSaid : {T : Type 0} → List (Option T) → Option (ℕ × T) → Type 0
IsSaid members said = IfSome said (λ s. slice_get members s.0 ≡ Some (Some s.1))

-- the vector has a legal history, which leads to this list
pub record EndsIn {T : Type 0} (vector : VectorView T) (members : List (Option T)) : Type 0 where
  pub log : Log
  pub legal : IsHistoryOf (limit_of vector) (base_of vector) vector.word.filled log
  pub list : IsListOfHistory vector log members

-- a history that began with the first list has ended in the second one, with which the history of another vector begins
pub record LivesOn {T : Type 0} (first : List (Option T)) (again : VectorView T) : Type 0 where
  pub vector : VectorView T
  pub opened : vector.opened ≡ first
  pub begins : BeginsAsOpened vector
  pub ends : EndsIn vector again.opened
  pub next : BeginsAsOpened again
