-- How the leaves of a span are shared out among workers.
use Rattle.std.specs.Prelude.{◌≡◌, ℕ, ◌+◌, ◌*◌, ◌≤◌, Some, List, length, slice_get}
use Rattle.span_core.specs.Each.{EachFrom}
use Rattle.span_core.specs.Span.{Interval}

-- there is a leaf of this number, and the result is one that it may have
abbrev pub GivesLeaf : {A : Type 0} → (Interval → A → Type 0) → List Interval → ℕ → A → Type 0
GivesLeaf gives leaves index answer = (leaf : Interval) × (slice_get leaves index ≡ Some leaf) × gives leaf answer

-- one item for each number that is left below `count`, in steps of the number of workers
abbrev pub IsShare : {A : Type 0} → (ℕ → A → Type 0) → ℕ → ℕ → ℕ → List A → Type 0
IsShare P count workers next items =
    EachFrom (λ turn. P (next + turn * workers)) 0 items × (count ≤ next + length items * workers)
