-- How a list becomes a vector of its values.
use Rattle.std.specs.Prelude.{◌≡◌, ℕ, ◌<◌, List, Option, Some, None, slice_get}
use Rattle.grow_core.specs.PopSegment.{IsUnbroken}
use Rattle.quiet_core.specs.declared.errors.IntoVecError.{IntoVecError}
use Rattle.quiet_core.specs.declared.errors.IntoVecError.TheVariants.{NoMemory, Broken}

-- the member at the place is broken, and none before it
abbrev pub IsFirstBroken : {T : Type 0} → List (Option T) → ℕ → Type 0
IsFirstBroken members place =
    (slice_get members place ≡ Some None) × ((i : ℕ) → i < place → slice_get members i ≡ Some None → ⊥)

-- when each refusal comes: memory is asked for only if no member is broken
abbrev pub IsDueFor : {T : Type 0} → List (Option T) → IntoVecError → Type 0
IsDueFor members NoMemory = IsUnbroken members
IsDueFor members (Broken place) = IsFirstBroken members place
