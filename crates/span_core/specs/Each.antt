-- Facts about each item of a list.
use Rattle.std.specs.Prelude.{ℕ, ◌+◌, List, [], ◌∷◌}

-- each item has the property at its index, counted from here
abbrev pub EachFrom : {X : Type 0} → (ℕ → X → Type 0) → ℕ → List X → Type 0
EachFrom P index [] = Unit {0}
EachFrom P index (x ∷ xs) = P index x × EachFrom P (index + 1) xs
