-- What the loops over a run's places keep, turn by turn.
use Rattle.std.proofs.Common.{◌≡◌, ℕ, ◌+◌, ◌-◌, ◌<◌, ◌≤◌, List, [], ◌∷◌, ◌++◌, length, refl, sym, ◌∙◌, subst, arith}
use Rattle.std.proofs.lemmas.List.{append-nil}
use Rattle.claim_core.specs.declared.run.Run.{Run}
use Rattle.claim_core.specs.Hand.{HandView}
use Rattle.claim_core.specs.History.{fill_event, break_event}
use Rattle.claim_core.specs.Laws.{SeenRunsHavePlaces}
use Rattle.grow_core.specs.Keys.{OwnsPlacesOf}
use Rattle.grow_core.specs.declared.errors.GrowError.{GrowError}
use Rattle.grow_core.specs.declared.errors.GrowError.TheVariants.{NoMemory, Full, Moved, Refused, Taken}
use Rattle.grow_core.specs.Logs.{break_steps, fill_steps, stop_steps}
use Rattle.grow_core.specs.Making.{IsRefusedAfter, StopsIn}
use Rattle.grow_core.specs.Steps.{AddsAlong, AddsAt, AddsOn, AreFresh, KeepsHand, StopsWith, WorksIn}
use Rattle.grow_core.specs.Vector.{VectorView}
use Rattle.grow_core.proofs.Works.{adds_none, adds_then, fills_on, on_of_at, place_still, still_fresh, stops_on, works_none, works_on}
use Rattle.grow_core.proofs.Adds.{one_more_break, one_more_fill}

module _ (run : Run) (a : HandView) where
  -- before the first turn
  pub nothing_filled : WorksIn a a run.from 0 × AddsOn a a run (λ index. fill_steps index run.from 0)
  nothing_filled = (works_none a a run.from 0 refl refl, adds_none run a a (λ index. fill_steps index run.from 0) refl (λ index. refl))

  pub nothing_broken : (from : ℕ) → WorksIn a a from 0 × AddsOn a a run (λ index. break_steps index from 0)
  nothing_broken from = (works_none a a from 0 refl refl, adds_none run a a (λ index. break_steps index from 0) refl (λ index. refl))

  module _ (law : SeenRunsHavePlaces) (b c : HandView) (from m next : ℕ) (at : from + m ≡ next) where
    -- a stretch more is filled
    pub stretch_filled : (n all : ℕ) → m + n ≡ all → run.from ≤ from → next + n ≤ run.from + run.n → WorksIn a b from m
        → AddsOn a b run (λ index. fill_steps index from m) → WorksIn b c next n → AddsAlong b c next n (λ index. fill_steps index next n)
        → WorksIn a c from all × AddsOn a c run (λ index. fill_steps index from all)
    stretch_filled n all sum above below works adds more along =
        (works_on a b from m next n all at sum c works more, fills_on run law a b c works.keeps from m next n all at sum above below adds along)

    -- a place more is filled
    pub place_filled : run.from ≤ from → next < run.from + run.n → WorksIn a b from m → AddsOn a b run (λ index. fill_steps index from m)
        → WorksIn b c next 1 → AddsAt b c next (λ index. fill_event index next)
        → WorksIn a c from (m + 1) × AddsOn a c run (λ index. fill_steps index from (m + 1))
    place_filled above below works adds more one = (
      works_on a b from m next 1 (m + 1) at refl c works more,
      adds_then run a b c (λ index. fill_steps index from m) (λ index. (fill_event index next ∷ []) ∷ []) (λ index. fill_steps index from (m + 1))
          (λ index. one_more_fill index from m next at) works.keeps adds
          (on_of_at run law b c next (λ index. fill_event index next) (omega (arith, at, above), below) one),
    )

    -- or broken
    pub place_broken : run.from ≤ from → next < run.from + run.n → WorksIn a b from m → AddsOn a b run (λ index. break_steps index from m)
        → WorksIn b c next 1 → AddsAt b c next (λ index. break_event index next)
        → WorksIn a c from (m + 1) × AddsOn a c run (λ index. break_steps index from (m + 1))
    place_broken above below works adds more one = (
      works_on a b from m next 1 (m + 1) at refl c works more,
      adds_then run a b c (λ index. break_steps index from m) (λ index. (break_event index next ∷ []) ∷ []) (λ index. break_steps index from (m + 1))
          (λ index. one_more_break index from m next at) works.keeps adds
          (on_of_at run law b c next (λ index. break_event index next) (omega (arith, at, above), below) one),
    )

    -- the hand owns the places that are left, and knows none of them begun
    pub owns_left : (n : ℕ) → WorksIn a b from m → OwnsPlacesOf a run → run.from ≤ from → next + n ≤ run.from + run.n
        → OwnsPlacesOf b (record { from = next; n = n })
    owns_left n works owns above below place (low, high) = place_still a b works.keeps place (owns place (omega (arith, low, at, above), omega (arith, high, below)))

    pub fresh_left : (n all : ℕ) → m + n ≡ all → WorksIn a b from m → AreFresh a from all → AreFresh b next n
    fresh_left n all sum works fresh = still_fresh a b from m next n all at sum works fresh

-- all values are taken once none is left
pub all_taken : {T : Type 0} (done left all : List T) → done ++ left ≡ all → length left ≡ 0 → done ≡ all
all_taken done [] all is none = sym (append-nil done) ∙ is
all_taken done (x ∷ left) all is none = absurd (omega (arith, none))

-- After a construction was refused, the places before it are filled and the others broken
pub stop_leaves : {T V E : Type 0} (vector : VectorView T) (run : Run) (a b c : HandView) (n : ℕ) (e : GrowError T V E) → KeepsHand a b
    → AddsOn a b run (λ index. fill_steps index run.from n) → StopsIn vector run e → IsRefusedAfter n e
    → AddsOn b c run (λ index. break_steps index (run.from + n) (run.n - n)) → StopsWith a c run e
stop_leaves vector run a b c n (NoMemory back) keeps first s after rest = s
stop_leaves vector run a b c n (Full size back) keeps first s after rest = s
stop_leaves vector run a b c n (Moved size back) keeps first s after rest = s
stop_leaves vector run a b c n (Refused of made cause) keeps first s after rest =
    subst (λ (k : ℕ). AddsOn a c run (λ index. stop_steps index run k)) (sym after) (stops_on run a b c n keeps first rest)
stop_leaves vector run a b c n (Taken place found) keeps first s after rest = s
