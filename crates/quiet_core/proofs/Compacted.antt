-- Values that move down over broken members.
use Rattle.std.proofs.Common.{◌≡◌, ℕ, zero, suc, ◌+◌, ◌<◌, Option, Some, None, List, [], ◌∷◌, ◌++◌, take, length, slice_get, slice_set, refl, sym, ap, ◌∙◌, subst, arith}
use Rattle.std.specs.Prelude.{filter, is_some}
use Rattle.std.proofs.lemmas.List.{length-set, take_all, take_more_set, take-set-le, drop-set-lt}
use Rattle.std.proofs.lemmas.List.Filters.{FiltersInPlace, FiltersInPlace-more_no, FiltersInPlace-more_set}
use Rattle.std.proofs.lemmas.Option.{slice_get_within, slice_get-get_or, get_or_from_slice_get}
use Rattle.grow_core.specs.PopSegment.{IsUnbroken}
use Rattle.quiet_core.specs.IntoVec.{IsFirstBroken}

module _ {T : Type 0} where
  -- the members before a place are values if none of them is broken
  first_values : (xs : List (Option T)) (n : ℕ) → ((i : ℕ) → i < n → slice_get xs i ≡ Some None → ⊥) → filter is_some (take n xs) ≡ take n xs
  first_values xs zero whole = refl
  first_values [] (suc n) whole = refl
  first_values (None ∷ xs) (suc n) whole = absurd (whole 0 (omega arith) refl)
  first_values (Some x ∷ xs) (suc n) whole = ap (λ u. Some x ∷ u) (first_values xs n (λ i less. whole (suc i) (omega (arith, less))))

  -- a list without a broken member has its values alone
  pub all_values : (xs : List (Option T)) → IsUnbroken xs → xs ≡ filter is_some xs
  all_values xs whole = sym (subst (λ u. filter is_some u ≡ u) (take_all (length xs) xs (omega arith)) (first_values xs (length xs) (λ i _ is. whole i is)))

  -- none of the values is broken
  pub values_unbroken : (xs : List (Option T)) → IsUnbroken (filter is_some xs)
  values_unbroken [] i is = absurd (let z = is in cc)
  values_unbroken (None ∷ xs) i is = values_unbroken xs i is
  values_unbroken (Some x ∷ xs) zero is = absurd (let z = is in cc)
  values_unbroken (Some x ∷ xs) (suc i) is = values_unbroken xs i is

  -- the members before the first broken one stay where they are
  pub values_begin : (xs : List (Option T)) (first : ℕ) → IsFirstBroken xs first → FiltersInPlace is_some xs xs first first
  values_begin xs first is = record {
    front = sym (first_values xs first is.1);
    rest = refl;
    behind = omega arith;
    within = let near = slice_get_within xs first None is.0 in omega (arith, near);
    long = refl;
  }

  module _ (xs ys : List (Option T)) (k i : ℕ) (before : FiltersInPlace is_some xs ys k i) (within : i < length ys) where
    value_next : (x : T) → slice_get ys i ≡ Some (Some x) → FiltersInPlace is_some xs (slice_set (slice_set ys i None) k (Some x)) (k + 1) (i + 1)
    value_next x is =
        let set = FiltersInPlace-more_set before within refl (sym (get_or_from_slice_get ys i (Some x) (Some x) is)) in
        let behind = before.behind in let long = length-set ys i None in
        record {
          front = take_more_set (slice_set ys i None) k (Some x) (omega (arith, behind, long, within)) ∙ ap (λ u. u ++ Some x ∷ []) (take-set-le k ys i None behind)
              ∙ sym (take_more_set ys k (Some x) (omega (arith, behind, within))) ∙ set.front;
          rest = drop-set-lt (i + 1) (slice_set ys i None) k (Some x) (omega (arith, behind)) ∙ drop-set-lt (i + 1) ys i None (omega arith)
              ∙ sym (drop-set-lt (i + 1) ys k (Some x) (omega (arith, behind))) ∙ set.rest;
          behind = set.behind;
          within = set.within;
          long = length-set (slice_set ys i None) k (Some x) ∙ long ∙ before.long;
        }

    broken_next : slice_get ys i ≡ Some None → FiltersInPlace is_some xs (slice_set ys i None) k (i + 1)
    broken_next is =
        let same = FiltersInPlace-more_no before within refl (sym (get_or_from_slice_get ys i None None is)) in
        record {
          front = take-set-le k ys i None before.behind ∙ same.front;
          rest = drop-set-lt (i + 1) ys i None (omega arith) ∙ same.rest;
          behind = same.behind;
          within = same.within;
          long = length-set ys i None ∙ before.long;
        }

    next_of : (zs : List (Option T)) (new : ℕ) (member : Option T) → slice_get ys i ≡ Some member
        → ((x : T) → slice_get ys i ≡ Some (Some x) → (new ≡ k + 1) × (zs ≡ slice_set (slice_set ys i None) k (Some x)))
        → (slice_get ys i ≡ Some None → (new ≡ k) × (zs ≡ slice_set ys i None)) → FiltersInPlace is_some xs zs new (i + 1)
    next_of zs new None is moved broken = let so = broken is in
        subst (λ (u : ℕ × List (Option T)). FiltersInPlace is_some xs u.1 u.0 (i + 1)) (λ t. (sym so.0 t, sym so.1 t)) (broken_next is)
    next_of zs new (Some x) is moved broken = let so = moved x is in
        subst (λ (u : ℕ × List (Option T)). FiltersInPlace is_some xs u.1 u.0 (i + 1)) (λ t. (sym so.0 t, sym so.1 t)) (value_next x is)

    -- one more member was moved down, or is broken
    pub values_next : (zs : List (Option T)) (new : ℕ)
        → ((x : T) → slice_get ys i ≡ Some (Some x) → (new ≡ k + 1) × (zs ≡ slice_set (slice_set ys i None) k (Some x)))
        → (slice_get ys i ≡ Some None → (new ≡ k) × (zs ≡ slice_set ys i None)) → FiltersInPlace is_some xs zs new (i + 1)
    values_next zs new moved broken = next_of zs new _ (slice_get-get_or ys i None within) moved broken
