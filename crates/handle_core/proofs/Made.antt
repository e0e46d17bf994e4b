-- What is true of each result of a maker is true of each value that it made.
use Rattle.std.proofs.Common.{zero, suc, ◌≡◌, ◌+◌, ◌-◌, ◌/◌, ℕ, List, [], ◌∷◌, length, Result, Ok, Some, refl, sym, subst, ◌∙◌, inl, inr, arith}
use Rattle.std.specs.Prelude.{slice_get}
use Rattle.std.specs.List.{FoldsTo}
use Rattle.std.proofs.lemmas.Option.{slice_get_cases}
use Rattle.grow_core.specs.Grown.{values_of}
use Rattle.grow_core.specs.Making.{Makes}
use Rattle.caller_core.specs.Caller.{CallerView, HasLast}
use Rattle.caller_core.specs.Grows.{GrowsUpTo}
use Rattle.handle_core.specs.Calls.{HasLastElement, elements_in, source_of}

module _ {F T E : Type 0} (step : F → ℕ → Result T E → F → Type 0) (keeps : F → Type 0) (says : ℕ → T → Type 0)
    (on : (f : F) (i : ℕ) (x : T) (g : F) → keeps f → step f i (Ok x) g → keeps g × says i x) where
  -- from a maker that was asked this many times already
  made_from : (p q : ℕ × F) (values : List T) (j : ℕ) (x : T) → keeps p.1
      → FoldsTo (λ (p : ℕ × F) x q. (q.0 ≡ p.0 + 1) × step p.1 p.0 (Ok x) q.1) p values q
      → slice_get values j ≡ Some x → says (p.0 + j) x
  made_from p q [] j x kept folds at = absurd (cc)
  made_from p q (y ∷ ys) zero x kept folds at =
      let same : y ≡ x = cc in
      subst (λ i. says i x) (omega arith) (subst (λ z. says p.0 z) same (on p.1 p.0 y folds.0.1 kept folds.1.1).1)
  made_from p q (y ∷ ys) (suc j) x kept folds at =
      let next = on p.1 p.0 y folds.0.1 kept folds.1.1 in
      subst (λ i. says i x) (omega (arith, folds.1.0)) (made_from folds.0 q ys j x next.0 folds.2 at)

  -- from one that was not asked yet
  pub made_at : (maker last : F) (values : List T) (j : ℕ) (x : T) → keeps maker → Makes step maker values last
      → slice_get values j ≡ Some x → says j x
  made_at maker last values j x kept made at =
      subst (λ i. says i x) (omega arith) (made_from (0, maker) (length values, last) values j x kept made at)

-- a growth up to a size by a maker that returns the elements of some words: the last token has the element of the
-- last place
pub last_made : {F T E : Type 0} (step : F → ℕ → Result T E → F → Type 0) (keeps : F → Type 0)
    (element_of : List ℕ → T) (width : ℕ) (words : List ℕ) (count : ℕ)
    → ((f : F) (i : ℕ) (x : T) (g : F) → keeps f → step f i (Ok x) g
    → keeps g × ((ws : List ℕ) → slice_get (elements_in width words) (source_of count i) ≡ Some ws → x ≡ element_of ws))
    → (maker : F) (size : ℕ) (old new : CallerView T) (place n : ℕ) → keeps maker
    → count ≡ length words / width → GrowsUpTo step maker size old new place n
    → HasLastElement element_of width words place n new
last_made step keeps element_of width words count on maker size old new place n kept counted g ws some at =
    let won = (g.some some).1 in let values = values_of won.grown in
    -- The growth has n values, so it has one at n - 1, which is the maker's result for n - 1.
    let long : length values ≡ n = sym won.won.won.n ∙ won.won.n in
    elim ((slice_get_cases values (n - 1)).1) [
      | inl (x, below, there, same) ↦
          let is : x ≡ element_of ws =
          made_at step keeps
          (λ i x. (ws : List ℕ) → slice_get (elements_in width words) (source_of count i) ≡ Some ws → x ≡ element_of ws)
          on maker won.won.made.0 values (n - 1) x kept won.won.made.1 there ws
          (subst (λ c. slice_get (elements_in width words) (source_of c (n - 1)) ≡ Some ws) (sym counted) at) in
          let count_is : won.grown.run.n ≡ n = won.won.n in
          subst (λ y. HasLast (place + (n - 1)) y new.last) is
          (subst (λ from. HasLast (from + (n - 1)) x new.last) won.here
          (subst (λ k. HasLast (won.grown.run.from + (k - 1)) x new.last) count_is
          (won.last.some x (subst (λ k. slice_get values (k - 1) ≡ Some x) (sym count_is) there))))
      | inr past ↦ absurd (omega (arith, past.0, long, some))
    ]

-- the same of a maker that never changes
pub last_of : {F T E : Type 0} (step : F → ℕ → Result T E → F → Type 0) (element_of : List ℕ → T) (width : ℕ) (words : List ℕ) (count : ℕ) (maker : F)
    → ((i : ℕ) (x : T) (next : F) → step maker i (Ok x) next
    → (next ≡ maker) × ((ws : List ℕ) → slice_get (elements_in width words) (source_of count i) ≡ Some ws → x ≡ element_of ws))
    → (size : ℕ) (old new : CallerView T) (place n : ℕ)
    → count ≡ length words / width → GrowsUpTo step maker size old new place n
    → HasLastElement element_of width words place n new
last_of step element_of width words count maker each size old new place n counted g =
    last_made step (λ f. f ≡ maker) element_of width words count
    (λ f i x next kept call. each i x next (subst (λ from. step from i (Ok x) next) kept call))
    maker size old new place n refl counted g
