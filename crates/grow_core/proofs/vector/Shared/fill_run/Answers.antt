use Rattle.std.proofs.Common.{◌≡◌, ℕ, ◌+◌, ◌-◌, ◌++◌, [], ◌∙◌, sym, ap, subst, append_assoc, length, length-append, arith}
use Rattle.std.specs.Vec.Iter.{into_iter_items, into_iter_len}
use Rattle.claim_core.specs.Hand.{HandView}
use Rattle.grow_core.specs.Keys.{OwnsPlacesOf}
use Rattle.grow_core.specs.Segment.{KnowsSegment}
use Rattle.grow_core.specs.Vector.{IsHandOf}
use Rattle.grow_core.proofs.Claims.{held_still}
use Rattle.std.specs.List.{Contains}
use Rattle.grow_core.specs.Logs.{fill_steps}
use Rattle.grow_core.specs.Steps.{AddsAlong, AddsOn, AreFresh, WorksIn}
use Rattle.grow_core.specs.Stretch.{IsStretchOf}
use Rattle.grow_core.proofs.Loops.{all_taken, fresh_left, nothing_filled, owns_left, stretch_filled}
use Rattle.grow_core.proofs.Works.{place_still, segment_still}
use Rattle.grow_core.proofs.vector.Shared.fill_run.Goals as goal

pub grown-requires : goal.grown-requires
grown-requires g c = (omega arith, (c.requires.within, ([], omega arith, c.no_places-filled.ensures c.args.run.from)))

pub loop-place-init : goal.loop-place-init
loop-place-init g c =
    let made = c.into_iter-left.ensures in let items = ap length made.rest in let run = c.args.run in let hand = c.args.hand.now in
    let first = nothing_filled run hand in let zero_is : 0 ≡ run.from - run.from = omega arith in (
      ([], c.no_places-filled.ensures c.args.run.from, omega arith, made.rest),
      omega (arith, items, made.len, c.args.values.ok),
      omega (arith, items, c.requires.values, c.args.values.ok),
      c.find_segment-segment.ensures.segment,
      omega arith,
      omega arith,
      c.find_segment-segment.ensures.row,
      subst (λ (k : ℕ). WorksIn hand hand run.from k) zero_is first.0,
      subst (λ (k : ℕ). AddsOn hand hand run (λ index. fill_steps index run.from k)) zero_is first.1,
    )

pub know-filled-requires : goal.know-filled-requires
know-filled-requires g c =
    let at = c.loop-place in let had = at.invariant.0 in let took = c.fill_next-stretch.ensures.filled in
    let next = subst (λ p. IsStretchOf c.args.self.now p took.values c.fill_next-stretch.result.0) had.2 took.is in
    (omega arith, (c.args.run.from, had.0, took.values, record { known = had.1; next = next }))

-- the hand of this turn owns the place, and knows where it is
pub next_segment-requires : goal.next_segment-requires
next_segment-requires g c =
    let at = c.loop-place in let keeps = at.invariant.7.keeps in
    (omega arith, (keeps.own.of ∙ c.requires.ours, (place_still c.args.hand.now at.hand keeps _ (c.requires.owned _ (omega arith, omega arith)), (omega arith, (at.invariant.3, (at.invariant.6, (at.invariant.4, at.invariant.5)))))))

-- and it has begun no place that is left
pub fill_next-stretch-requires : goal.fill_next-stretch-requires
fill_next-stretch-requires g c =
    let at = c.loop-place in let run = c.args.run in let v = c.args.self.now in let old = c.args.hand.now in
    let law = c.seen_runs_have_places.ensures in let here : run.from + (at.place - run.from) ≡ at.place = omega (arith, at.invariant.0) in
    let n = into_iter_len at.left in let items = at.invariant.1 in
    let ours = at.invariant.7.keeps.own.of ∙ c.requires.ours in
    let owned = owns_left run old law at.hand at.hand run.from (at.place - run.from) at.place here n at.invariant.7 c.requires.owned (omega arith) (omega (arith, at.invariant.2, items)) in
    let fresh = fresh_left run old law at.hand at.hand run.from (at.place - run.from) at.place here n run.n (omega (arith, at.invariant.2, items)) at.invariant.7 c.requires.fresh in
    let is = sym c.hand.view_is in (
      omega arith,
      (
        subst (λ (h : HandView). IsHandOf v h) is ours,
        (
          subst (λ (h : HandView). OwnsPlacesOf h (record { from = at.place; n = n })) is owned,
          (
            subst (λ (h : HandView). AreFresh h at.place n) is fresh,
            (
              c.next_segment.ensures.segment,
              (
                subst (λ (h : HandView). KnowsSegment h c.next_segment.new.segment) is c.next_segment.ensures.row,
                (c.next_segment.ensures.from, (c.next_segment.ensures.before, (omega (arith, at.invariant.2, items), items))),
              ),
            ),
          ),
        ),
      ),
    )

-- what a stretch leaves of the hand
pub invariant_of-hand : goal.invariant_of-hand
invariant_of-hand g c = held_still c.hand.inside.claims c.fill_next-stretch.new.claims c.loop-place.place c.fill_next-stretch.result.0.n c.hand.inside.keys c.fill_next-stretch.ensures.works c.hand.invariant

pub loop-place-preserved : goal.loop-place-preserved
loop-place-preserved g c =
    let at = c.loop-place in let v = c.args.self.now in let from = c.args.run.from in
    let had = at.invariant.0 in let took = c.fill_next-stretch.ensures.filled in
    let rest = into_iter_items c.fill_next-stretch.result.1 in
    let next = subst (λ p. IsStretchOf v p took.values c.fill_next-stretch.result.0) had.2 took.is in
    let firsts = ap length took.first ∙ length-append took.values rest in
    let after = c.fill_next-stretch.new.claims in let n = c.fill_next-stretch.result.0.n in
    let works = subst (λ (h : HandView). WorksIn h after at.place n) c.hand.view_is c.fill_next-stretch.ensures.works in
    let adds = subst (λ (h : HandView). AddsAlong h after at.place n (λ index. fill_steps index at.place n)) c.hand.view_is c.fill_next-stretch.ensures.adds in
    let more = stretch_filled c.args.run c.args.hand.now c.seen_runs_have_places.ensures at.hand after from (at.place - from) at.place (omega (arith, had.2)) n
    (at.place + n - from) (omega (arith, had.2)) (omega arith) (omega (arith, at.invariant.2, firsts, took.is.n)) at.invariant.7 at.invariant.8 works adds in (
      (
        had.0 ++ took.values,
        c.know-filled.ensures from had.0 took.values (record { known = had.1; next = next }),
        omega (arith, had.2, length-append had.0 took.values, took.is.n),
        append_assoc had.0 took.values rest ∙ ap (λ ts. had.0 ++ ts) (sym took.first) ∙ had.3,
      ),
      took.counted,
      omega (arith, at.invariant.2, firsts, took.is.n),
      c.next_segment.ensures.segment,
      omega arith,
      omega (arith, c.fill_next-stretch.ensures.within),
      segment_still at.hand after works.keeps (λ row it. subst (λ l. Contains l row) (sym works.rows) it) _ _ c.next_segment.ensures.row,
      more.0,
      more.1,
    )

pub returns-clause-values : goal.returns-clause-values
returns-clause-values g c =
    let at = c.loop-place in let had = at.invariant.0 in
    c.grown-2.ensures.values had.0 had.1
    ∙ all_taken had.0 (into_iter_items at.left) c.args.values.items had.3 (omega (arith, at.invariant.2, c.loop-place-test.false))

pub returns-clause-works : goal.returns-clause-works
returns-clause-works g c =
    let at = c.loop-place in let run = c.args.run in let all : at.place - run.from ≡ run.n = omega (arith, at.invariant.2, c.loop-place-test.false) in
    subst (λ (k : ℕ). WorksIn c.args.hand.now at.hand run.from k) all at.invariant.7
