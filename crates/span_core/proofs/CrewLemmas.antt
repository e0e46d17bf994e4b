-- Crews of workers, put together.
use Rattle.std.proofs.Common.{◌≡◌, ℕ, ◌+◌, ◌*◌, ◌<◌, ◌≤◌, ◌⊎◌, List, Result, Ok, Err, IfOk, IfErr, inl, inr, subst, sym, arith}
use Rattle.std.proofs.lemmas.Nat.{mul-le}
use Rattle.std.proofs.lemmas.Result.{IfOk-at_ok, IfErr-at_err, IfErr-weaker}
use Rattle.claim_core.specs.Hand.{HandView}
use Rattle.span_core.specs.Workers.{EachGives}
use Rattle.span_core.specs.Hands.{IsWithinHand, SaysOfPart}
use Rattle.span_core.specs.Crew.{IsOfCrew}
use Rattle.span_core.specs.declared.errors.Refusal.{Refusal}
use Rattle.span_core.specs.declared.errors.Refusal.TheVariants.{NoMemory}
use Rattle.span_core.proofs.Ranges.{lower-of-range, upper-of-range}
use Rattle.span_core.proofs.HandLemmas.{AreAnswers, AreRefused, range-more, turn-more, turn-each}

-- parts of one share at least have one together
pub some_parts : (count shares : ℕ) → 0 < count → 0 < shares → 0 < count * shares
some_parts count shares some each = let one = mul-le 1 1 count shares some each in omega arith

-- and one for each
pub one_each : (count shares : ℕ) → 0 < shares → count ≤ count * shares
one_each count shares each = let one = mul-le count 1 count shares (omega arith) each in omega arith

module _ {A V E : Type 0} (items : V → List A) (gives : ℕ → HandView → A → Type 0) (refuses : ℕ → HandView → E → Type 0) (may_refuse : ℕ → Type 0) where
  -- why a part of a crew has no results, of the hand that it leaves
  abbrev pub EndsCrew : HandView → ℕ → ℕ → Refusal E → Type 0
  EndsCrew all first count e = IsOfCrew (SaysOfPart gives all) (SaysOfPart refuses all) may_refuse first count e

  -- a crew that has begun ends as a range of workers does
  pub ends-begun : (all : HandView) (first count : ℕ) (told : Result V (Refusal E))
      → IfErr told (AreRefused items gives refuses may_refuse all first count) → IfErr told (EndsCrew all first count)
  ends-begun all first count told refused =
      IfErr-weaker told (AreRefused items gives refuses may_refuse all first count) (EndsCrew all first count) (λ e is. inr is) refused

  -- the same, of a larger hand
  crew-more : (a b : HandView) (first count : ℕ) (e : Refusal E) → IsWithinHand a b → EndsCrew a first count e → EndsCrew b first count e
  crew-more a b first count e part (inl none) = inl none
  crew-more a b first count e part (inr is) = inr (range-more gives refuses may_refuse a b first count e part is)

  -- the results of a part, each of the worker's own part of a larger hand
  each-gives : (a c : HandView) (first count : ℕ) (v : V) → IsWithinHand a c → AreAnswers items gives refuses may_refuse a first count v
      → EachGives (SaysOfPart gives c) first count (items v)
  each-gives a c first count v part x = (turn-each gives c first (items v) a.mine (turn-more gives a c first (items v) a.mine part x.0), x.1)

  -- why the lower half has no results is why the whole has none
  lower-ends : (a c : HandView) (first low high : ℕ) (e : Refusal E) → IsWithinHand a c → EndsCrew a first low e → EndsCrew c first (low + high) e
  lower-ends a c first low high e part (inl none) = inl none
  lower-ends a c first low high e part (inr is) =
      inr (lower-of-range items (SaysOfPart gives c) (SaysOfPart refuses c) may_refuse first low high e (range-more gives refuses may_refuse a c first low e part is))

  -- the same of the upper half, if the lower one has returned
  upper-ends : (a b c : HandView) (first low middle high : ℕ) (v : V) (e : Refusal E) → first + low ≡ middle → IsWithinHand a c → IsWithinHand b c
      → AreAnswers items gives refuses may_refuse a first low v → EndsCrew b middle high e → EndsCrew c first (low + high) e
  upper-ends a b c first low middle high v e meets left right x (inl none) = inl none
  upper-ends a b c first low middle high v e meets left right x (inr is) =
      inr
      (upper-of-range items (SaysOfPart gives c) (SaysOfPart refuses c) may_refuse first low middle high (items v) e meets (each-gives a c first low v left x)
      (range-more gives refuses may_refuse b c middle high e right is))

  -- why both halves together have no results
  pub both-end : (a b c : HandView) (first low middle high : ℕ) (lower upper all : Result V (Refusal E)) → first + low ≡ middle
      → IsWithinHand a c → IsWithinHand b c
      → IfOk lower (AreAnswers items gives refuses may_refuse a first low) → IfErr lower (EndsCrew a first low) → IfErr upper (EndsCrew b middle high)
      → IfErr all (λ e. (e ≡ NoMemory) ⊎ ((lower ≡ Err e) ⊎ ((xs : V) × (lower ≡ Ok xs) × (upper ≡ Err e))))
      → IfErr all (EndsCrew c first (low + high))
  both-end a b c first low middle high lower upper all meets left right answered below above ends =
      IfErr-weaker all _ (EndsCrew c first (low + high)) why ends
    where
      why : (e : Refusal E) → (e ≡ NoMemory) ⊎ ((lower ≡ Err e) ⊎ ((xs : V) × (lower ≡ Ok xs) × (upper ≡ Err e)))
          → EndsCrew c first (low + high) e
      why e (inl none) = subst (EndsCrew c first (low + high)) (sym none) (inr tt)
      why e (inr (inl lowest)) = lower-ends a c first low high e left (IfErr-at_err (EndsCrew a first low) lowest below)
      why e (inr (inr (xs, was, next))) =
          upper-ends a b c first low middle high xs e meets left right (IfOk-at_ok (AreAnswers items gives refuses may_refuse a first low) was answered)
          (IfErr-at_err (EndsCrew b middle high) next above)

  -- the caller's hand is joined with that of the crew
  pub all-end : (b c : HandView) (workers : ℕ) (all : Result V (Refusal E)) → IsWithinHand b c
      → IfErr all (EndsCrew b 0 workers) → IfErr all (EndsCrew c 0 workers)
  all-end b c workers all part ends =
      IfErr-weaker all (EndsCrew b 0 workers) (EndsCrew c 0 workers) (λ e is. crew-more b c 0 workers e part is) ends
