use Rattle.std.proofs.Common.{◌≡◌, ℕ, ◌+◌, ◌-◌, take, [], length, refl, ◌∙◌, sym, subst, arith}
use Rattle.std.specs.List.{Contains}
use Rattle.claim_core.specs.Hand.{HandView}
use Rattle.grow_core.specs.Keys.{OwnsPlacesOf}
use Rattle.grow_core.specs.Logs.{fill_steps}
use Rattle.grow_core.specs.Segment.{KnowsSegment}
use Rattle.grow_core.specs.Steps.{AddsAlong, AreFresh, WorksIn}
use Rattle.grow_core.specs.Vector.{IsHandOf}
use Rattle.grow_core.proofs.Claims.{held_still}
use Rattle.std.proofs.Math.Seq.{take-add}
use Rattle.std.proofs.lemmas.List.{length-take-le}
use Rattle.grow_core.specs.Filled.{IsFilledOf}
use Rattle.grow_core.specs.Stretch.{IsStretchOf, values_from}
use Rattle.grow_core.proofs.Loops.{fresh_left, nothing_filled, owns_left, stretch_filled}
use Rattle.grow_core.proofs.Works.{place_still, segment_still}
use Rattle.grow_core.proofs.vector.Shared.copy_run.Goals as goal

pub grown-requires : goal.grown-requires
grown-requires g c = (omega arith, (c.requires.within, ([], omega arith, c.no_places-filled.ensures c.args.run.from)))

pub know-filled-requires : goal.know-filled-requires
know-filled-requires g c =
    let at = c.loop-done in let all = g.S.Source.values c.args.source.now in let took = c.copy_next-stretch.ensures.filled in
    let many = length-take-le at.done all (omega (arith, at.invariant.1, c.requires.values)) in
    let here : c.args.run.from + at.done ≡ c.args.run.from + length (take at.done all) = omega (arith, many) in
    let next = subst (λ (p : ℕ). IsStretchOf c.args.self.now p (values_from all at.done c.copy_next-stretch.result.n) c.copy_next-stretch.result) here took.is in
    (omega arith, (c.args.run.from, take at.done all, values_from all at.done c.copy_next-stretch.result.n, record { known = at.invariant.0; next = next }))

pub loop-done-init : goal.loop-done-init
loop-done-init g c = let first = nothing_filled c.args.run c.args.hand.now in (c.no_places-filled.ensures c.args.run.from, omega arith, c.find_segment-segment.ensures.segment, omega arith, omega arith, c.find_segment-segment.ensures.row, first.0, first.1)

-- the hand of this turn owns the place, and knows where it is
pub next_segment-requires : goal.next_segment-requires
next_segment-requires g c =
    let at = c.loop-done in let keeps = at.invariant.6.keeps in
    (omega arith, (keeps.own.of ∙ c.requires.ours, (place_still c.args.hand.now at.hand keeps _ (c.requires.owned _ (omega arith, omega arith)), (omega arith, (at.invariant.2, (at.invariant.5, (at.invariant.3, at.invariant.4)))))))

-- and it has begun no place that is left
pub copy_next-stretch-requires : goal.copy_next-stretch-requires
copy_next-stretch-requires g c =
    let at = c.loop-done in let run = c.args.run in let v = c.args.self.now in let old = c.args.hand.now in
    let law = c.seen_runs_have_places.ensures in let place = run.from + at.done in let n = run.n - at.done in
    let ours = at.invariant.6.keeps.own.of ∙ c.requires.ours in
    let owned = owns_left run old law at.hand at.hand run.from at.done place refl n at.invariant.6 c.requires.owned (omega arith) (omega (arith, at.invariant.1)) in
    let fresh = fresh_left run old law at.hand at.hand run.from at.done place refl n run.n (omega (arith, at.invariant.1)) at.invariant.6 c.requires.fresh in
    let is = sym c.hand.view_is in (
      omega arith,
      (
        subst (λ (h : HandView). IsHandOf v h) is ours,
        (
          subst (λ (h : HandView). OwnsPlacesOf h (record { from = place; n = n })) is owned,
          (
            subst (λ (h : HandView). AreFresh h place n) is fresh,
            (
              c.next_segment.ensures.segment,
              (
                subst (λ (h : HandView). KnowsSegment h c.next_segment.new.segment) is c.next_segment.ensures.row,
                (c.next_segment.ensures.from, (c.next_segment.ensures.before, (omega (arith, at.invariant.1), (omega (arith, at.invariant.1, c.requires.values), omega (arith, at.invariant.1, c.laws.ensures.bounds, c.requires.within))))),
              ),
            ),
          ),
        ),
      ),
    )

-- what a stretch leaves of the hand
pub invariant_of-hand : goal.invariant_of-hand
invariant_of-hand g c =
    held_still c.hand.inside.claims c.copy_next-stretch.new.claims (c.args.run.from + c.loop-done.done) c.copy_next-stretch.result.n c.hand.inside.keys c.copy_next-stretch.ensures.works c.hand.invariant

pub loop-done-preserved : goal.loop-done-preserved
loop-done-preserved g c =
    let at = c.loop-done in let all = g.S.Source.values c.args.source.now in let took = c.copy_next-stretch.ensures.filled in
    let v = c.args.self.now in let from = c.args.run.from in let n = c.copy_next-stretch.result.n in
    let many = length-take-le at.done all (omega (arith, at.invariant.1, c.requires.values)) in
    let here : from + at.done ≡ from + length (take at.done all) = omega (arith, many) in
    let next = subst (λ (p : ℕ). IsStretchOf v p (values_from all at.done n) c.copy_next-stretch.result) here took.is in
    let known = c.know-filled.ensures from (take at.done all) (values_from all at.done n) (record { known = at.invariant.0; next = next }) in
    let after = c.copy_next-stretch.new.claims in let place = from + at.done in
    let works = subst (λ (h : HandView). WorksIn h after place n) c.hand.view_is c.copy_next-stretch.ensures.works in
    let adds = subst (λ (h : HandView). AddsAlong h after place n (λ index. fill_steps index place n)) c.hand.view_is c.copy_next-stretch.ensures.adds in
    let more = stretch_filled c.args.run c.args.hand.now c.seen_runs_have_places.ensures at.hand after from at.done (from + at.done) refl n (at.done + n) refl
    (omega arith) (omega (arith, took.few, c.copy_next-stretch.ensures.within)) at.invariant.6 at.invariant.7 works adds in (
      subst (λ vs. IsFilledOf v from vs c.know-filled.result) (sym (take-add at.done n all)) known,
      omega (arith, took.few),
      c.next_segment.ensures.segment,
      omega arith,
      omega (arith, c.copy_next-stretch.ensures.within),
      segment_still at.hand after works.keeps (λ row it. subst (λ l. Contains l row) (sym works.rows) it) _ _ c.next_segment.ensures.row,
      more.0,
      more.1,
    )
