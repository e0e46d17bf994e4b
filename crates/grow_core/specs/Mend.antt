-- What `mend` returns.
use Rattle.std.specs.Prelude.{◌≡◌, ℕ, ◌<◌, ◌≤◌}
use Rattle.claim_core.specs.Hand.{HandView, SeesSize, seen_size}
use Rattle.grow_core.specs.declared.errors.MendError.{MendError}
use Rattle.grow_core.specs.declared.errors.MendError.TheVariants.{OutOfRange, Pending, Filled}
use Rattle.grow_core.specs.Vector.{VectorView, IsPlacedOf}

-- what is said of a place that is not mended: nothing of a pending one, and a filled one has a token
abbrev pub IsUnmendedAt : {T : Type 0} → VectorView T → ℕ → MendError T → Type 0
IsUnmendedAt vector place (OutOfRange size) = ⊥
IsUnmendedAt vector place Pending = Unit {0}
IsUnmendedAt vector place (Filled placed) = IsPlacedOf vector placed × (placed.place ≡ place)

-- when each refusal comes, by what the hand had seen, and sees now: a place is pending or filled below the
-- size alone
abbrev pub IsMendDue : {T : Type 0} → VectorView T → ℕ → HandView → HandView → MendError T → Type 0
IsMendDue vector place old new (OutOfRange size) = (size ≤ place) × SeesSize old new size
IsMendDue vector place old new Pending = place < seen_size new
IsMendDue vector place old new (Filled placed) =
    (place < seen_size new) × IsPlacedOf vector placed × (placed.place ≡ place)

-- the refusal does not say that the place is not below the size
abbrev pub IsSeen : {T : Type 0} → MendError T → Type 0
IsSeen (OutOfRange size) = ⊥
IsSeen refusal = Unit {0}

-- the place is filled
abbrev pub SaysFilled : {T : Type 0} → MendError T → Type 0
SaysFilled (Filled placed) = Unit {0}
SaysFilled other = ⊥

-- if the place is filled, it has this value
abbrev pub TellsNoOther : {T : Type 0} → T → MendError T → Type 0
TellsNoOther x (Filled placed) = placed.value ≡ x
TellsNoOther x other = Unit {0}

-- the place is filled, with this value
abbrev pub TellsValue : {T : Type 0} → T → MendError T → Type 0
TellsValue x (Filled placed) = placed.value ≡ x
TellsValue x other = ⊥
