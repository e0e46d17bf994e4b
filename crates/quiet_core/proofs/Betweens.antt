-- Members from one place up to another, what is left of them, and values that lie side by side.
use Rattle.std.proofs.Common.{◌≡◌, ℕ, zero, suc, add-one, ◌+◌, ◌-◌, ◌<◌, ◌≤◌, Option, Some, None, List, [], ◌∷◌, ◌++◌, take, drop, slice_get, slice_set, slice_index_or, get_or, length, map, min, refl, sym, ap, ◌∙◌, subst, arith, Bor, MatchOption}
use Rattle.std.specs.Option.{option_copied, option_map}
use Rattle.std.proofs.lemmas.List.{length-drop, length-take, drop-take, get_or-drop, get_or-take}
use Rattle.std.proofs.lemmas.Option.{slice_get-map, slice_get_within}
use Rattle.quiet_core.specs.Between.{AreValuesFrom, between}

module _ {X : Type 0} where
  drop_first_suc : (xs : List X) (i : ℕ) (x : X) → slice_get xs i ≡ Some x → drop i xs ≡ x ∷ drop (suc i) xs
  drop_first_suc [] i x is = absurd (let z = is in cc)
  drop_first_suc (y ∷ xs) zero x is = let z : y ≡ x = (let w = is in cc) in ap (λ u. u ∷ xs) z
  drop_first_suc (y ∷ xs) (suc i) x is = drop_first_suc xs i x is

  -- the list from a place on begins with what is there
  pub drop_first : (xs : List X) (i : ℕ) (x : X) → slice_get xs i ≡ Some x → drop i xs ≡ x ∷ drop (i + 1) xs
  drop_first xs i x is = drop_first_suc xs i x is ∙ ap (λ n. x ∷ drop n xs) (sym (add-one i))

  drop_set_suc : (xs : List X) (i : ℕ) (x : X) → drop (suc i) (slice_set xs i x) ≡ drop (suc i) xs
  drop_set_suc [] i x = refl
  drop_set_suc (y ∷ xs) zero x = refl
  drop_set_suc (y ∷ xs) (suc i) x = drop_set_suc xs i x

  -- what is put at a place is not past it
  pub drop_set : (xs : List X) (i : ℕ) (x : X) → drop (i + 1) (slice_set xs i x) ≡ drop (i + 1) xs
  drop_set xs i x = subst (λ n. drop n (slice_set xs i x) ≡ drop n xs) (sym (add-one i)) (drop_set_suc xs i x)

  -- what is left from a place on, when the last one is removed
  pub drop_last : (xs : List X) (i : ℕ) (x : X) → i ≤ length xs → drop i (xs ++ x ∷ []) ≡ drop i xs ++ x ∷ []
  drop_last xs zero x within = refl
  drop_last [] (suc i) x within = absurd (omega (arith, within))
  drop_last (y ∷ xs) (suc i) x within = drop_last xs i x (omega (arith, within))

  slice_get_drop : (xs : List X) (i n : ℕ) → slice_get (drop i xs) n ≡ slice_get xs (i + n)
  slice_get_drop xs zero n = ap (slice_get xs) (let e : n ≡ 0 + n = omega arith in e)
  slice_get_drop [] (suc i) n = refl
  slice_get_drop (y ∷ xs) (suc i) n = slice_get_drop xs i n ∙ ap (slice_get (y ∷ xs)) (let e : suc (i + n) ≡ suc i + n = omega arith in e)

  got_take : (xs : List X) (n i : ℕ) (x : X) → slice_get (take n xs) i ≡ Some x → slice_get xs i ≡ Some x
  got_take xs zero i x is = absurd (let z = is in cc)
  got_take [] (suc n) i x is = absurd (let z = is in cc)
  got_take (y ∷ xs) (suc n) zero x is = is
  got_take (y ∷ xs) (suc n) (suc i) x is = got_take xs n i x is

  take_more_suc : (xs : List X) (n : ℕ) (x : X) → slice_get xs n ≡ Some x → take (suc n) xs ≡ take n xs ++ x ∷ []
  take_more_suc [] n x is = absurd (let z = is in cc)
  take_more_suc (y ∷ xs) zero x is = let z : y ≡ x = (let w = is in cc) in ap (λ u. u ∷ []) z
  take_more_suc (y ∷ xs) (suc n) x is = ap (λ u. y ∷ u) (take_more_suc xs n x is)

  -- the first of the members between two places
  pub between_first : (xs : List X) (from to : ℕ) (x : X) → from < to → slice_get xs from ≡ Some x → between xs from to ≡ x ∷ between xs (from + 1) to
  between_first xs from to x some is =
      let n : ℕ = to - (from + 1) in let one : to - from ≡ suc n = omega (arith, some) in
      (λ i. take (one i) (drop_first xs from x is i))

  -- the same, with the place after it given by an equation
  pub between_next_first : (xs : List X) (from next to : ℕ) (x : X) → from < to → next ≡ from + 1 → slice_get xs from ≡ Some x → between xs from to ≡ x ∷ between xs next to
  between_next_first xs from next to x some after is = between_first xs from to x some is ∙ ap (λ n. x ∷ between xs n to) (sym after)

  -- and the last
  pub between_last : (xs : List X) (from to : ℕ) (x : X) → from < to → slice_get xs (to - 1) ≡ Some x → between xs from to ≡ between xs from (to - 1) ++ x ∷ []
  between_last xs from to x some is =
      let n : ℕ = (to - 1) - from in let one : to - from ≡ suc n = omega (arith, some) in
      ap (λ k. take k (drop from xs)) one ∙ take_more_suc (drop from xs) n x (slice_get_drop xs from n ∙ ap (slice_get xs) (let e : from + n ≡ to - 1 = omega (arith, some) in e) ∙ is)

  -- there are none between a place and itself
  pub between_none : (xs : List X) (from to : ℕ) → from ≡ to → between xs from to ≡ []
  between_none xs from to same = ap (λ k. take k (drop from xs)) (let e : to - from ≡ 0 = omega (arith, same) in e)

  -- what is at the first place
  pub between_at : (xs : List X) (from to : ℕ) (d : X) → from < to → slice_index_or (between xs from to) 0 d ≡ slice_index_or xs from d
  between_at xs from to d some =
      get_or-take (to - from) (drop from xs) 0 d (omega (arith, some)) ∙ get_or-drop from xs 0 d ∙ ap (λ n. get_or xs n d) (let e : from + 0 ≡ from = omega arith in e)

  drop_next_suc : (xs : List X) (from : ℕ) → drop 1 (drop from xs) ≡ drop (suc from) xs
  drop_next_suc xs zero = refl
  drop_next_suc [] (suc from) = refl
  drop_next_suc (y ∷ ys) (suc from) = drop_next_suc ys from

  -- the members after the first place
  pub between_next : (xs : List X) (from to : ℕ) → from < to → drop 1 (between xs from to) ≡ between xs (from + 1) to
  between_next xs from to some =
      let n : ℕ = to - (from + 1) in
      ap (λ k. drop 1 (take k (drop from xs))) (let e : to - from ≡ 1 + n = omega (arith, some) in e) ∙ drop-take 1 n (drop from xs)
      ∙ ap (take n) (drop_next_suc xs from ∙ ap (λ k. drop k xs) (sym (add-one from)))

-- one for each place
pub between_length : {X : Type 0} (xs : List X) (from to : ℕ) → to ≤ length xs → length (between xs from to) ≡ to - from
between_length xs from to within = let rest = length-drop from xs in length-take (to - from) (drop from xs) ∙ (let e : min (to - from) (length (drop from xs)) ≡ to - from = omega (arith, rest, within) in e)

-- if there are some, the places are in order
pub between_some : {X : Type 0} (xs : List X) (from to : ℕ) → 0 < length (between xs from to) → from < to
between_some xs from to some = let long = length-take (to - from) (drop from xs) in omega (arith, some, long)

-- the value at a place
pub value_there : {T : Type 0} (members : List (Option T)) (from i place : ℕ) (values : List T) (x : T) → from + i ≡ place → slice_get values i ≡ Some x → AreValuesFrom members from values
    → slice_get members place ≡ Some (Some x)
value_there members from i place values x here at are = ap (slice_get members) (sym here) ∙ are i x at

-- no value is left
pub values_none : {T : Type 0} (members : List (Option T)) (from : ℕ) (values : List T) → length values ≡ 0 → AreValuesFrom members from values
values_none members from values none i x at = let near = slice_get_within values i x at in absurd (omega (arith, near, none))

-- some of the first values
pub values_take : {T : Type 0} (members : List (Option T)) (from : ℕ) (values : List T) (n : ℕ) → AreValuesFrom members from values → AreValuesFrom members from (take n values)
values_take members from values n are i x at = are i x (got_take values n i x at)

-- what a slice lends are the values from its place on
pub values_lent : {T : Type 0} (members : List (Option T)) (from n : ℕ) (values : List T) → map Some values ≡ take n (drop from members) → AreValuesFrom members from values
values_lent members from n values is i x at =
    let there = slice_get-map Some values i ∙ ap (option_map Some) at in
    let got = got_take (drop from members) n i (Some x) (ap (λ l. slice_get l i) (sym is) ∙ there) in sym (slice_get_drop members from i) ∙ got

-- what was got is what is there
pub got : {T : Type 0} (xs : List (Option T)) (i : ℕ) (r : Option (Bor T)) → MatchOption r (slice_get xs i ≡ Some None) (λ x. slice_get xs i ≡ Some (Some x.now)) → slice_get xs i ≡ Some (option_copied r)
got xs i None is = is
got xs i (Some x) is = is
