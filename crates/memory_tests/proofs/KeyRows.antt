-- A row of keys beside a hand, for the small layer of the tests.
use Rattle.std.proofs.Common.{ℕ, ◌/◌, ◌<◌, List, length, get_or, set, Option, Some, None, sym, subst, refl}
use Rattle.std.specs.Prelude.{IsSome}
use Rattle.std.proofs.lemmas.List.{get_or-set_same, get_or-set_other}
use mathlib.Core.Logic.{dite}
use native.Mathlib.Decide.{ℕ_discrete}
use Rattle.claim_core.specs.Hand.{HandView, OwnsPlace}

-- the row has a key in this entry
abbrev pub HasKey : {K : Type 0} → List (Option K) → ℕ → Type 0
HasKey row b = IsSome (get_or row b None)

-- each block that has an own place has its key in the row
abbrev pub HasKeys : {K : Type 0} → HandView → List (Option K) → Type 0
HasKeys hand row = (place : ℕ) → OwnsPlace hand place → HasKey row (place / 34359738368)

-- an entry that is set has a key, and the others keep theirs
pub set_here : {K : Type 0} (row : List (Option K)) (b : ℕ) (key : K) → b < length row → HasKey (set row b (Some key)) b
set_here row b key lt = subst IsSome (sym (get_or-set_same row b (Some key) None lt)) refl

pub set_keeps : {K : Type 0} (row : List (Option K)) (b c : ℕ) (key : K) → b < length row → HasKey row c
    → HasKey (set row b (Some key)) c
set_keeps row b c key lt has =
    dite (ℕ_discrete c b)
    (λ same. subst (λ e. HasKey (set row b (Some key)) e) (sym same) (set_here row b key lt))
    (λ other. subst IsSome (sym (get_or-set_other row b c (Some key) None other)) has)
