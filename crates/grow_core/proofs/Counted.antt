-- How many values of a list are shown before a place.
use Rattle.std.proofs.Common.{◌≡◌, ℕ, zero, suc, add-one, ◌+◌, ◌≤◌, List, [], ◌∷◌, Option, None, Some, take, length, slice_get, Bor, subst, sym, arith}
use Rattle.std.specs.Prelude.{filter, is_some}
use Rattle.std.specs.Option.{option_copied}
use Rattle.grow_core.specs.Published.{one_if_shown}

module _ {T : Type 0} where
  -- an item is counted if it shows the first member
  first_shown : (member : Option T) (rest : List (Option T)) (item : Option (Bor T)) → ((x : T) → member ≡ Some x → option_copied item ≡ Some x)
      → length (filter is_some (member ∷ rest)) ≤ one_if_shown item + length (filter is_some rest)
  first_shown None rest item shows = omega arith
  first_shown (Some x) rest (Some at) shows = omega arith
  first_shown (Some x) rest None shows = absurd (let z = shows x (λ i. Some x) in cc)

  shown_next : (opened : List (Option T)) (place : ℕ) (item : Option (Bor T)) → ((x : T) → slice_get opened place ≡ Some (Some x) → option_copied item ≡ Some x)
      → length (filter is_some (take (suc place) opened)) ≤ length (filter is_some (take place opened)) + one_if_shown item
  shown_next [] zero item shows = omega arith
  shown_next [] (suc place) item shows = omega arith
  shown_next (member ∷ opened) zero item shows = let first = first_shown member [] item (λ x is. shows x (λ i. Some (is i))) in omega (arith, first)
  shown_next (None ∷ opened) (suc place) item shows = shown_next opened place item shows
  shown_next (Some x ∷ opened) (suc place) item shows = let rest = shown_next opened place item shows in omega (arith, rest)

  -- so the count stays at least that of the members before the place
  pub counts_next : (opened : List (Option T)) (place count more : ℕ) (item : Option (Bor T)) → ((x : T) → slice_get opened place ≡ Some (Some x) → option_copied item ≡ Some x)
      → more ≡ one_if_shown item → length (filter is_some (take place opened)) ≤ count → length (filter is_some (take (place + 1) opened)) ≤ count + more
  counts_next opened place count more item shows is before =
      let next = subst (λ n. length (filter is_some (take n opened)) ≤ length (filter is_some (take place opened)) + one_if_shown item) (sym (add-one place)) (shown_next opened place item shows) in
      omega (arith, next, before, is)
