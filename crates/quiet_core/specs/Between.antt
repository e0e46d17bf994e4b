-- The members from one place up to another, and values that are those from a place on.
use Rattle.std.specs.Prelude.{◌≡◌, ℕ, ◌+◌, ◌-◌, List, Option, Some, slice_get, take, drop}

abbrev pub between : {X : Type 0} → List X → ℕ → ℕ → List X
between xs from to = take (to - from) (drop from xs)

-- these are the values of the members from this place on
abbrev pub AreValuesFrom : {T : Type 0} → List (Option T) → ℕ → List T → Type 0
AreValuesFrom {T} members from values =
    (i : ℕ) (x : T) → slice_get values i ≡ Some x → slice_get members (from + i) ≡ Some (Some x)
