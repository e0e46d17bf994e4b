-- Two halves of a range of workers.
use Rattle.std.proofs.Common.{◌≡◌, ℕ, ◌+◌, ◌<◌, ◌⊎◌, List, [], ◌++◌, length, Result, Ok, Err, IfOk, IfErr, inl, inr, subst, sym, arith, length-append}
use Rattle.std.proofs.lemmas.Result.{IfOk-weaker, IfOk-at_ok, IfErr-at_err, IfErr-weaker}
use Rattle.span_core.specs.Workers.{EachGives, RefusesLowest, IsOfRange}
use Rattle.span_core.specs.declared.errors.Refusal.{Refusal}
use Rattle.span_core.specs.declared.errors.Refusal.TheVariants.{NoMemory, NoThread, Stuck, Worker}
use Rattle.span_core.proofs.Each.{EachFrom-append}

-- the results of both halves, in order
pub halves-give : {A : Type 0} (gives : ℕ → A → Type 0) (first low middle high : ℕ) (xs ys all : List A)
    → first + low ≡ middle → EachGives gives first low xs → EachGives gives middle high ys → all ≡ xs ++ ys
    → EachGives gives first (low + high) all
halves-give {A} gives first low middle high xs ys all meets lower upper both =
    let Q : List A → Type 0 = λ zs. EachGives gives first (low + high) zs in
    subst Q (sym both) (
      EachFrom-append gives first middle xs ys (omega (arith, meets, lower.1)) lower.0 upper.0,
      omega (arith, lower.1, upper.1, length-append xs ys),
    )

module _ {A : Type 0} (gives : ℕ → A → Type 0) (may_refuse : ℕ → Type 0) where
  -- the first worker of a range is its lowest
  pub one-refused : (worker count : ℕ) → 0 < count → may_refuse worker → RefusesLowest gives may_refuse worker count
  one-refused worker count some may =
      let same : worker ≡ worker + 0 = omega arith in
      ([], tt, omega (arith, some), subst may_refuse same may)

  -- the lowest one of the lower half is the lowest of the whole
  pub lower-refused : (first low high : ℕ) → RefusesLowest gives may_refuse first low → RefusesLowest gives may_refuse first (low + high)
  lower-refused first low high one = (one.0, one.1, omega (arith, one.2), one.3)

  -- if the lower half has returned, the lowest worker of the upper half is the lowest of the whole
  pub upper-refused : (first low middle high : ℕ) (xs : List A) → first + low ≡ middle → EachGives gives first low xs
      → RefusesLowest gives may_refuse middle high → RefusesLowest gives may_refuse first (low + high)
  upper-refused first low middle high xs meets answers one =
      let ys : List A = one.0 in
      let longer = length-append xs ys in
      let same : middle + length ys ≡ first + length (xs ++ ys) = omega (arith, meets, answers.1, longer) in (
        xs ++ ys,
        EachFrom-append gives first middle xs ys (omega (arith, meets, answers.1)) answers.0 one.1,
        omega (arith, answers.1, one.2, longer),
        subst may_refuse same one.3,
      )

module _ {A V E : Type 0} (items : V → List A) where
  -- the same of two results, put together
  pub both-give : (gives : ℕ → A → Type 0) (first low middle high : ℕ) (lower upper all : Result V E)
      → first + low ≡ middle → IfOk lower (λ v. EachGives gives first low (items v))
      → IfOk upper (λ v. EachGives gives middle high (items v))
      → IfOk all (λ v. (xs : V) × (ys : V) × (lower ≡ Ok xs) × (upper ≡ Ok ys) × (items v ≡ items xs ++ items ys))
      → IfOk all (λ v. EachGives gives first (low + high) (items v))
  both-give gives first low middle high lower upper all meets p q both =
      IfOk-weaker all _ (λ v. EachGives gives first (low + high) (items v))
      (λ v made.
      halves-give gives first low middle high (items made.0) (items made.1) (items v) meets
      (IfOk-at_ok (λ v. EachGives gives first low (items v)) made.2 p)
      (IfOk-at_ok (λ v. EachGives gives middle high (items v)) made.3 q)
      made.4)
      both

module _ {A V E : Type 0} (items : V → List A) (gives : ℕ → A → Type 0) (refuses : ℕ → E → Type 0) (may_refuse : ℕ → Type 0) where
  -- why the lower half has no result is why the whole has none
  pub lower-of-range : (first low high : ℕ) (e : Refusal E) → IsOfRange gives refuses may_refuse first low e
      → IsOfRange gives refuses may_refuse first (low + high) e
  lower-of-range first low high NoMemory is = is
  lower-of-range first low high NoThread is = is
  lower-of-range first low high Stuck is = lower-refused gives may_refuse first low high is
  lower-of-range first low high (Worker e) is = lower-refused gives (λ worker. refuses worker e) first low high is

  -- the same of the upper half, if the lower one has returned
  pub upper-of-range : (first low middle high : ℕ) (xs : List A) (e : Refusal E) → first + low ≡ middle → EachGives gives first low xs
      → IsOfRange gives refuses may_refuse middle high e → IsOfRange gives refuses may_refuse first (low + high) e
  upper-of-range first low middle high xs NoMemory meets answers is = is
  upper-of-range first low middle high xs NoThread meets answers is = is
  upper-of-range first low middle high xs Stuck meets answers is = upper-refused gives may_refuse first low middle high xs meets answers is
  upper-of-range first low middle high xs (Worker e) meets answers is =
      upper-refused gives (λ worker. refuses worker e) first low middle high xs meets answers is

  -- why both halves together have no result
  pub both-refused : (first low middle high : ℕ) (lower upper all : Result V (Refusal E)) → first + low ≡ middle
      → IfOk lower (λ v. EachGives gives first low (items v))
      → IfErr lower (IsOfRange gives refuses may_refuse first low)
      → IfErr upper (IsOfRange gives refuses may_refuse middle high)
      → IfErr all (λ e. (e ≡ NoMemory) ⊎ ((lower ≡ Err e) ⊎ ((xs : V) × (lower ≡ Ok xs) × (upper ≡ Err e))))
      → IfErr all (IsOfRange gives refuses may_refuse first (low + high))
  both-refused first low middle high lower upper all meets answered below above ends =
      IfErr-weaker all _ (IsOfRange gives refuses may_refuse first (low + high)) why ends
    where
      Ends : Refusal E → Type 0
      Ends e = IsOfRange gives refuses may_refuse first (low + high) e

      why : (e : Refusal E) → (e ≡ NoMemory) ⊎ ((lower ≡ Err e) ⊎ ((xs : V) × (lower ≡ Ok xs) × (upper ≡ Err e))) → Ends e
      why e (inl none) = subst Ends (sym none) tt
      why e (inr (inl lowest)) = lower-of-range first low high e (IfErr-at_err (IsOfRange gives refuses may_refuse first low) lowest below)
      why e (inr (inr (xs, was, next))) =
          upper-of-range first low middle high (items xs) e meets (IfOk-at_ok (λ v. EachGives gives first low (items v)) was answered)
          (IfErr-at_err (IsOfRange gives refuses may_refuse middle high) next above)
