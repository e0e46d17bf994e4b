use Rattle.std.proofs.Common.{of_calls, ◌≡◌, ℕ, ◌+◌, ◌-◌, ◌++◌, ◌∷◌, [], refl, sym, ◌∙◌, subst, length-append, arith}
use Rattle.std.specs.List.{Contains}
use Rattle.std.proofs.lemmas.Fn.{FoldsTo-push}
use Rattle.claim_core.specs.Hand.{HandView, OwnsPlace}
use Rattle.claim_core.specs.History.{break_event}
use Rattle.grow_core.specs.Logs.{break_steps}
use Rattle.grow_core.specs.Segment.{KnowsSegment}
use Rattle.grow_core.specs.Vector.{IsHandOf}
use Rattle.grow_core.proofs.Claims.{held_still}
use Rattle.grow_core.specs.Steps.{AddsAt, AddsOn, AreFresh, WorksIn}
use Rattle.grow_core.proofs.Breaking.{none_broken, more_broken}
use Rattle.grow_core.proofs.Loops.{fresh_left, nothing_broken, place_broken}
use Rattle.grow_core.proofs.Works.{place_still, segment_still}
use Rattle.grow_core.proofs.vector.Shared.break_rest.Goals as goal

pub loop-place-init : goal.loop-place-init
loop-place-init g c =
    let run = c.args.run in let hand = c.args.hand.now in let from = run.from + c.args.first in
    let first = nothing_broken run hand from in let zero_is : 0 ≡ from - from = omega arith in (
      ([], none_broken c.args.self.now from, refl, omega arith),
      c.find_segment-segment.ensures.segment,
      omega arith,
      omega arith,
      c.find_segment-segment.ensures.row,
      subst (λ (k : ℕ). WorksIn hand hand from k) zero_is first.0,
      subst (λ (k : ℕ). AddsOn hand hand run (λ index. break_steps index from k)) zero_is first.1,
      search of_calls,
    )

-- the hand of this turn owns the place, and knows where it is
pub next_segment-requires : goal.next_segment-requires
next_segment-requires g c =
    let at = c.loop-place in let keeps = at.invariant.5.keeps in
    (omega arith, (keeps.own.of ∙ c.requires.ours, (place_still c.args.hand.now at.hand keeps _ (c.requires.owned _ (omega arith, omega arith)), (omega arith, (at.invariant.1, (at.invariant.4, (at.invariant.2, at.invariant.3)))))))

-- and it has not begun it
pub break_place-requires : goal.break_place-requires
break_place-requires g c =
    let at = c.loop-place in let run = c.args.run in let v = c.args.self.now in let old = c.args.hand.now in let from = run.from + c.args.first in let had = at.invariant.0 in
    let keeps = at.invariant.5.keeps in let law = c.seen_runs_have_places.ensures in
    let ours = keeps.own.of ∙ c.requires.ours in
    let owned = place_still old at.hand keeps at.place (c.requires.owned at.place (omega (arith, had.3), omega arith)) in
    let rest = fresh_left run old law at.hand at.hand from (at.place - from) at.place (omega (arith, had.3)) (run.from + run.n - at.place) (run.n - c.args.first)
    (omega (arith, had.3)) at.invariant.5 c.requires.fresh in
    let fresh : AreFresh at.hand at.place 1 = (λ place low high. rest place low (omega (arith, high))) in
    let is = sym c.hand.view_is in (
      omega arith,
      (
        subst (λ (h : HandView). IsHandOf v h) is ours,
        (
          subst (λ (h : HandView). OwnsPlace h at.place) is owned,
          (
            subst (λ (h : HandView). AreFresh h at.place 1) is fresh,
            (
              c.next_segment.ensures.segment,
              (
                subst (λ (h : HandView). KnowsSegment h c.next_segment.new.segment) is c.next_segment.ensures.row,
                (c.next_segment.ensures.from, c.next_segment.ensures.before),
              ),
            ),
          ),
        ),
      ),
    )

-- what a break leaves of the hand
pub invariant_of-hand : goal.invariant_of-hand
invariant_of-hand g c = held_still c.hand.inside.claims c.break_place.new.claims c.loop-place.place 1 c.hand.inside.keys c.break_place.ensures.works c.hand.invariant

pub loop-place-preserved : goal.loop-place-preserved
loop-place-preserved g c =
    let at = c.loop-place in let had = at.invariant.0 in let t = c.break_place.result in let run = c.args.run in let from = run.from + c.args.first in
    let after = c.break_place.new.claims in
    let works = subst (λ (h : HandView). WorksIn h after at.place 1) c.hand.view_is c.break_place.ensures.works in
    let adds = subst (λ (h : HandView). AddsAt h after at.place (λ index. break_event index at.place)) c.hand.view_is c.break_place.ensures.adds in
    let more = place_broken run c.args.hand.now c.seen_runs_have_places.ensures at.hand after from (at.place - from) at.place (omega (arith, had.3))
    (omega arith) (omega arith) at.invariant.5 at.invariant.6 works adds in
    let one_more : at.place - from + 1 ≡ at.place + 1 - from = omega (arith, had.3) in (
      (
        had.0 ++ t ∷ [],
        more_broken c.args.self.now from had.0 t had.1 c.break_place.ensures.token (omega (arith, c.break_place.ensures.here, had.3)),
        FoldsTo-push (λ k token next. goal.K-step g k token tt next) c.args.keep.now had.0 at.keep t c.keep.new.self had.2 c.keep.ensures,
        omega (arith, length-append had.0 (t ∷ []), had.3),
      ),
      c.next_segment.ensures.segment,
      omega arith,
      omega arith,
      segment_still at.hand after works.keeps (λ row it. subst (λ l. Contains l row) (sym works.rows) it) _ _ c.next_segment.ensures.row,
      subst (λ (k : ℕ). WorksIn c.args.hand.now after from k) one_more more.0,
      subst (λ (k : ℕ). AddsOn c.args.hand.now after run (λ index. break_steps index from k)) one_more more.1,
      search of_calls,
    )

pub returns-clause-works : goal.returns-clause-works
returns-clause-works g c =
    let at = c.loop-place in let run = c.args.run in let from = run.from + c.args.first in
    let all : at.place - from ≡ run.n - c.args.first = omega (arith, c.loop-place-test.false, at.auto.place-end) in
    subst (λ (k : ℕ). WorksIn c.args.hand.now at.hand from k) all at.invariant.5
