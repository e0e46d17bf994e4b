-- What stays of a token while its vector lives.
use Rattle.std.proofs.Common.{◌≡◌, ℕ, ◌+◌, ◌<◌, ◌≤◌, List, [], ◌∷◌, length, Option, Some, None, Ok, sym, ap, ◌∙◌, subst, arith}
use Rattle.std.specs.Prelude.{IfSome}
use Rattle.std.specs.List.{sum}
use Rattle.std.proofs.lemmas.List.Sums.{sum_by-append}
use mathlib.Core.List.{IsPrefix}
use Rattle.claim_core.specs.Word.{WordView}
use Rattle.claim_core.specs.Hand.{HandView, seen_size}
use Rattle.claim_core.specs.History.{mend_event, mender_of}
use Rattle.grow_core.specs.Growth.{WonPlace}
use Rattle.grow_core.specs.Logs.{IsFinishedIn, LogsMend, LogsPush}
use Rattle.grow_core.specs.Token.{PlacedView}
use Rattle.grow_core.specs.Vector.{VectorView, IsPlacedOf, limit_of}
use Rattle.vector_tests.specs.WholeLife.{IsKept}
use Rattle.vector_tests.proofs.Filled.{finished_by_push, finished_by_second, still_finished}

-- a hand that has seen more has seen no smaller size
size_grows : (old new : HandView) → new.of ≡ old.of → IsPrefix old.seen new.seen → seen_size old ≤ seen_size new
size_grows old new of p =
    let base : new.of.base ≡ old.of.base = ap (λ (w : WordView). w.base) of in
    let total : sum new.seen ≡ sum old.seen + sum p.0 = sym (ap sum p.1) ∙ sum_by-append (λ x. x) old.seen p.0 in
    omega arith

kept_on : {T : Type 0} (vector : VectorView T) (old new : HandView) (value : T) (p : PlacedView T) → new.of ≡ old.of → IsPrefix old.seen new.seen
    → IsPrefix old.log new.log → IsKept vector old value p → IsKept vector new value p
kept_on vector old new value p of seen log kept = record {
  of = kept.of;
  value = kept.value;
  below =
      let grows : seen_size old ≤ seen_size new = size_grows old new of seen in let below : p.place < seen_size old = kept.below in
      omega arith;
  filled = still_finished old.log new.log p.place kept.filled log;
}

-- what a hand keeps of a token, a hand that has seen more keeps too
pub kept_if_any : {T : Type 0} (vector : VectorView T) (old new : HandView) (value : T) (token : Option (PlacedView T)) → new.of ≡ old.of
    → IsPrefix old.seen new.seen → IsPrefix old.log new.log → IfSome token (IsKept vector old value) → IfSome token (IsKept vector new value)
kept_if_any vector old new value (Some p) of seen log kept = kept_on vector old new value p of seen log kept
kept_if_any vector old new value None of seen log kept = tt

-- the place of such a token is below the length of the list that the hand's vector is closed into
pub below_if_kept : {T : Type 0} (vector : VectorView T) (hand : HandView) (value : T) (token : Option (PlacedView T)) (members : List (Option T))
    → length members ≡ seen_size hand → IfSome token (IsKept vector hand value) → IfSome token (λ p. p.place < length members)
below_if_kept vector hand value (Some p) members long kept = let below : p.place < seen_size hand = kept.below in omega (arith, long)
below_if_kept vector hand value None members long kept = tt

pub pushed_is_kept : {T : Type 0} (vector : VectorView T) (value : T) (old new : HandView) (p : PlacedView T) → WonPlace vector value old new p
    → LogsPush old new p.place → IsKept vector new value p
pushed_is_kept vector value old new p won logs = record {
  of = won.token;
  value = won.value;
  below = let ends : seen_size new ≡ p.place + 1 = won.run.ends in omega arith;
  filled = finished_by_push old new p.place logs;
}

pub mended_is_kept : {T : Type 0} (vector : VectorView T) (place : ℕ) (value : T) (old new : HandView) (p : PlacedView T) → IsPlacedOf vector p
    → p.place ≡ place → p.value ≡ value → place < seen_size new → LogsMend vector place old new (Ok p) → IsKept vector new value p
mended_is_kept vector place value old new p of here same below logs = record {
  of = of;
  value = same;
  below = omega arith;
  filled =
      let limit : ℕ = limit_of vector in
      subst (IsFinishedIn new.log) (sym here)
      (finished_by_second old.log new.log (mend_event limit place ∷ []) (mender_of limit place) place logs);
}
