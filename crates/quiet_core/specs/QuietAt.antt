-- Why a place has no value to lend, or is not mended.
use Rattle.std.specs.Prelude.{◌≡◌, ℕ, ◌≤◌, Option, Some, None, List, length, slice_get}
use Rattle.quiet_core.specs.declared.errors.QuietAt.{QuietAt}
use Rattle.quiet_core.specs.declared.errors.QuietAt.TheVariants.{OutOfRange, Broken}
use Rattle.quiet_core.specs.declared.errors.QuietMendError.{QuietMendError}
use Rattle.quiet_core.specs.declared.errors.QuietMendError.TheVariants as mend

-- the refusal is true of these members and this place
abbrev pub IsRefusalAt : {T : Type 0} → List (Option T) → ℕ → QuietAt → Type 0
IsRefusalAt members place (OutOfRange size) = (size ≡ length members) × (length members ≤ place)
IsRefusalAt members place Broken = slice_get members place ≡ Some None

-- the same of a member that was to be mended
abbrev pub IsMendRefusalAt : {T : Type 0} → List (Option T) → ℕ → QuietMendError → Type 0
IsMendRefusalAt members place (mend.OutOfRange size) = (size ≡ length members) × (length members ≤ place)
IsMendRefusalAt {T} members place mend.Filled = (x : T) × (slice_get members place ≡ Some (Some x))
