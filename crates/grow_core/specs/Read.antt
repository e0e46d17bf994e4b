-- What `at` returns.
use Rattle.std.specs.Prelude.{◌≡◌, ℕ, ◌<◌, ◌≤◌}
use Rattle.claim_core.specs.Hand.{HandView, SeesSize, seen_size}
use Rattle.grow_core.specs.declared.errors.AtError.{AtError}
use Rattle.grow_core.specs.declared.errors.AtError.TheVariants.{OutOfRange, Pending, Broken}
use Rattle.grow_core.specs.declared.read.At.{At}
use Rattle.grow_core.specs.declared.read.Shown.{Shown}
use Rattle.grow_core.specs.declared.read.Shown.TheVariants as shown
use Rattle.grow_core.specs.Vector.{VectorView, IsPlacedOf, IsSpoiltOf}

-- the value is that of the token, which is of this place of the vector
pub record IsAt {T : Type 0} (vector : VectorView T) (place : ℕ) (at : At T) : Type 0 where
  pub of : IsPlacedOf vector at.placed
  pub here : at.placed.place ≡ place
  pub value : at.value.now ≡ at.placed.value

-- what a place of the vector shows
abbrev pub IsShownAt : {T : Type 0} → VectorView T → ℕ → Shown T → Type 0
IsShownAt vector place shown.Pending = Unit {0}
IsShownAt vector place (shown.Filled at) = IsAt vector place at
IsShownAt vector place (shown.Broken spoilt) = IsSpoiltOf vector spoilt × (spoilt.place ≡ place)

-- if a value is shown, it is this one
abbrev pub ShowsNoOther : {T : Type 0} → T → Shown T → Type 0
ShowsNoOther x (shown.Filled at) = at.value.now ≡ x
ShowsNoOther x other = Unit {0}

-- this value is shown
abbrev pub ShowsValue : {T : Type 0} → T → Shown T → Type 0
ShowsValue x (shown.Filled at) = at.value.now ≡ x
ShowsValue x other = ⊥

-- when each refusal comes, by what the hand had seen, and sees now: a place is pending or broken below the
-- size alone
abbrev pub IsDueAt : {T : Type 0} → VectorView T → ℕ → HandView → HandView → AtError → Type 0
IsDueAt vector place old new (OutOfRange size) = (size ≤ place) × SeesSize old new size
IsDueAt vector place old new Pending = place < seen_size new
IsDueAt vector place old new (Broken spoilt) =
    (place < seen_size new) × IsSpoiltOf vector spoilt × (spoilt.place ≡ place)

-- the refusal does not say that the place is not below the size
abbrev pub IsInRange : AtError → Type 0
IsInRange (OutOfRange size) = ⊥
IsInRange refusal = Unit {0}
