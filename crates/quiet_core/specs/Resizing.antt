-- How a list is made to have another length.
use Rattle.std.specs.Prelude.{◌≡◌, ℕ, ◌+◌, ◌-◌, ◌<◌, ◌≤◌, ◌++◌, List, Option, Some, None, Result, length, map, take, replicate}
use Rattle.grow_core.specs.Making.{Makes, StopsAfter}
use Rattle.quiet_core.specs.declared.errors.QuietError.{QuietError}
use Rattle.quiet_core.specs.declared.errors.QuietError.TheVariants.{NoMemory, TooLong, Refused}
use Rattle.quiet_core.specs.QuietList.{QuietList, GrowsFor, IsUnchanged}

-- the refusal is one of room, and not of a value that could not be made
abbrev pub IsOfRoom : QuietError → Type 0
IsOfRoom (Refused made) = ⊥
IsOfRoom refusal = Unit {0}

-- the refusal is one of a value that could not be made
abbrev pub IsNotOfRoom : QuietError → Type 0
IsNotOfRoom (Refused made) = Unit {0}
IsNotOfRoom refusal = ⊥

module _ {F T E : Type 0} (step : F → ℕ → Result T E → F → Type 0) (maker : F) where
  -- n values that the maker made for 0, 1, .. in turn were appended
  abbrev pub IsMade : ℕ → List (Option T) → List (Option T) → Type 0
  IsMade n old new = (values : List T) × (last : F) × Makes step maker values last × (length values ≡ n)
      × (new ≡ old ++ map Some values)

  -- n values that the maker made were appended, and its next result was a refusal
  abbrev pub IsStopped : ℕ → List (Option T) → List (Option T) → Type 0
  IsStopped made old new =
      (values : List T) × (cause : E) × StopsAfter step maker values cause × (length values ≡ made)
      × (new ≡ old ++ map Some values)

  -- the first members are left, or what the maker returned for 0, 1, 2 and so on was appended
  pub record IsResized (n : ℕ) (old new : List (Option T)) : Type 0 where
    pub cut : n ≤ length old → new ≡ take n old
    pub grown : length old < n → IsMade (n - length old) old new

  -- the `made` values that the maker made before it refused were appended, and then broken members
  pub record IsBrokenOff (n made : ℕ) (old new : List (Option T)) : Type 0 where
    pub fewer : length old + made < n
    pub middle : List (Option T)
    pub stopped : IsStopped made old middle
    pub members : new ≡ middle ++ replicate (n - length middle) None

  -- what each refusal leaves of the list
  abbrev pub LeavesList : ℕ → QuietList T → QuietList T → QuietError → Type 0
  LeavesList n old new NoMemory = IsUnchanged old new
  LeavesList n old new TooLong = new ≡ old
  LeavesList n old new (Refused made) =
      IsBrokenOff n made old.members new.members × (new.limit ≡ old.limit) × (new.layout ≡ old.layout)
      × GrowsFor old.layout n old.capacity new.capacity
