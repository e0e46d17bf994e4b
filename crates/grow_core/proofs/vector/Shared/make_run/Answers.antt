use Rattle.std.proofs.Common.{of_calls, ℕ, ◌≡◌, ◌+◌, ◌-◌, ◌++◌, ◌∷◌, [], Ok, refl, length, length-append, subst, sym, ◌∙◌, arith}
use Rattle.std.specs.List.{Contains}
use Rattle.grow_core.specs.Stretch.{IsStretchOf}
use Rattle.grow_core.proofs.Made.{made_push, stops_at, left_by_stop}
use Rattle.grow_core.proofs.Loops.{fresh_left, nothing_filled, place_filled, stop_leaves}
use Rattle.grow_core.proofs.Works.{place_still, segment_still, works_on}
use Rattle.claim_core.specs.Hand.{HandView, OwnsPlace}
use Rattle.claim_core.specs.History.{fill_event}
use Rattle.grow_core.specs.Segment.{KnowsSegment}
use Rattle.grow_core.specs.Steps.{AddsAt, AreFresh, WorksIn}
use Rattle.grow_core.specs.Vector.{IsHandOf}
use Rattle.grow_core.proofs.Claims.{held_still}
use Rattle.grow_core.proofs.vector.Shared.make_run.Goals as goal

pub grown-requires : goal.grown-requires
grown-requires g c = (omega arith, (c.requires.within, ([], omega arith, c.no_places-filled.ensures c.args.run.from)))

pub returns-in-Err-clause-asked : goal.returns-in-Err-clause-asked
returns-in-Err-clause-asked g c =
    let at = c.loop-i in let had = at.invariant.0 in
    left_by_stop (goal.F-step g) c.args.make.now c.args.self.now c.args.run had.0 _ c.make.new.self c.stop.result c.stop.ensures.stopped (c.stop.ensures.cause had.0 had.1)
    (stops_at (goal.F-step g) c.args.make.now had.0 at.make c.make.new.self c.in-Err.cause at.i had.3 had.2
    (subst (λ r. goal.F-step g at.make at.i r c.make.new.self) c.in-Err.is c.make.ensures))

pub next_segment-requires : goal.next_segment-requires
next_segment-requires g c =
    let at = c.loop-i in let keeps = at.invariant.5.keeps in
    (omega arith, (keeps.own.of ∙ c.requires.ours, (place_still c.args.hand.now at.hand keeps _ (c.requires.owned _ (omega arith, omega arith)), (omega arith, (at.invariant.1, (at.invariant.4, (at.invariant.2, at.invariant.3)))))))

-- and it has not begun it
pub fill-placed-requires : goal.fill-placed-requires
fill-placed-requires g c =
    let at = c.loop-i in let run = c.args.run in let v = c.args.self.now in let old = c.args.hand.now in let place = run.from + at.i in
    let keeps = at.invariant.5.keeps in let law = c.seen_runs_have_places.ensures in
    let ours = keeps.own.of ∙ c.requires.ours in
    let owned = place_still old at.hand keeps place (c.requires.owned place (omega arith, omega arith)) in
    let rest = fresh_left run old law at.hand at.hand run.from at.i place refl (run.n - at.i) run.n (omega arith) at.invariant.5 c.requires.fresh in
    let fresh : AreFresh at.hand place 1 = (λ p low high. rest p low (omega (arith, high))) in
    let is = sym c.hand.view_is in (
      omega arith,
      (
        subst (λ (h : HandView). IsHandOf v h) is ours,
        (
          subst (λ (h : HandView). OwnsPlace h place) is owned,
          (
            subst (λ (h : HandView). AreFresh h place 1) is fresh,
            (
              c.next_segment.ensures.segment,
              (
                subst (λ (h : HandView). KnowsSegment h c.next_segment.new.segment) is c.next_segment.ensures.row,
                (c.next_segment.ensures.from, c.next_segment.ensures.before),
              ),
            ),
          ),
        ),
      ),
    )

-- what a fill leaves of the hand
pub invariant_of-hand : goal.invariant_of-hand
invariant_of-hand g c =
    held_still c.hand.inside.claims c.fill-placed.new.claims (c.args.run.from + c.loop-i.i) 1 c.hand.inside.keys c.fill-placed.ensures.works c.hand.invariant

-- a construction that was refused: the places before it are filled, and the others broken
pub returns-in-Err-clause-works : goal.returns-in-Err-clause-works
returns-in-Err-clause-works g c =
    let at = c.loop-i in let run = c.args.run in
    works_on c.args.hand.now at.hand run.from at.i (run.from + at.i) (run.n - at.i) run.n refl (omega arith) c.stop.new.hand at.invariant.5 c.stop.ensures.works

pub returns-in-Err-clause-leaves : goal.returns-in-Err-clause-leaves
returns-in-Err-clause-leaves g c =
    let at = c.loop-i in
    stop_leaves c.args.self.now c.args.run c.args.hand.now at.hand c.stop.new.hand at.i c.stop.result at.invariant.5.keeps at.invariant.6
    c.stop.ensures.stopped c.stop.ensures.made c.stop.ensures.adds

pub stop-requires : goal.stop-requires
stop-requires g c =
    let at = c.loop-i in let run = c.args.run in let keeps = at.invariant.5.keeps in let had = at.invariant.0 in
    let fresh = fresh_left run c.args.hand.now c.seen_runs_have_places.ensures at.hand at.hand run.from at.i (run.from + at.i) refl (run.n - at.i) run.n
    (omega arith) at.invariant.5 c.requires.fresh in
    (omega arith, (keeps.own.of ∙ c.requires.ours, ((λ place it. place_still c.args.hand.now at.hand keeps place (c.requires.owned place it)), (fresh, (c.requires.within, ((had.0, had.2, had.1), omega arith))))))

pub loop-i-init : goal.loop-i-init
loop-i-init g c =
    let found = c.find_segment-segment.ensures in let first = nothing_filled c.args.run c.args.hand.now in
    (([], c.no_places-filled.ensures c.args.run.from, refl, refl), found.segment, omega (arith, found.from), omega (arith, found.before), found.row, first.0, first.1, search of_calls)

pub know-filled-requires : goal.know-filled-requires
know-filled-requires g c =
    let at = c.loop-i in let had = at.invariant.0 in let token = c.fill-placed.result in let v = c.args.self.now in let run = c.args.run in
    let there : token.place ≡ run.from + length had.0 = omega (arith, c.fill-placed.ensures.here, had.2) in
    let next = subst (λ (p : ℕ). IsStretchOf v p (token.value ∷ []) c.stretch_of.result) there c.stretch_of.ensures in
    (omega arith, (run.from, had.0, token.value ∷ [], record { known = had.1; next = next }))

pub loop-i-preserved : goal.loop-i-preserved
loop-i-preserved g c =
    let at = c.loop-i in let had = at.invariant.0 in let token = c.fill-placed.result in let v = c.args.self.now in let run = c.args.run in
    let put = c.fill-placed.ensures in let there : token.place ≡ run.from + length had.0 = omega (arith, put.here, had.2) in
    let next = subst (λ (p : ℕ). IsStretchOf v p (token.value ∷ []) c.stretch_of.result) there c.stretch_of.ensures in
    let call = subst (λ x. goal.F-step g at.make at.i (Ok x) c.make.new.self) (sym put.value) (subst (λ r. goal.F-step g at.make at.i r c.make.new.self) c.in-Ok.is c.make.ensures) in
    let after = c.fill-placed.new.claims in let place = run.from + at.i in
    let works = subst (λ (h : HandView). WorksIn h after place 1) c.hand.view_is put.works in
    let adds = subst (λ (h : HandView). AddsAt h after place (λ index. fill_event index place)) c.hand.view_is put.adds in
    let more = place_filled run c.args.hand.now c.seen_runs_have_places.ensures at.hand after run.from at.i (run.from + at.i) refl (omega arith) (omega arith)
    at.invariant.5 at.invariant.6 works adds in (
      (
        had.0 ++ token.value ∷ [],
        c.know-filled.ensures run.from had.0 (token.value ∷ []) (record { known = had.1; next = next }),
        omega (arith, had.2, length-append had.0 (token.value ∷ [])),
        made_push (goal.F-step g) c.args.make.now had.0 at.make c.make.new.self token.value at.i had.3 had.2 call,
      ),
      c.next_segment.ensures.segment,
      omega arith,
      omega arith,
      segment_still at.hand after works.keeps (λ row it. subst (λ l. Contains l row) (sym works.rows) it) _ _ c.next_segment.ensures.row,
      more.0,
      more.1,
      search of_calls,
    )

pub returns-clause-works : goal.returns-clause-works
returns-clause-works g c =
    let at = c.loop-i in let run = c.args.run in let all : at.i ≡ run.n = omega (arith, c.loop-i-test.false, at.auto) in
    subst (λ (k : ℕ). WorksIn c.args.hand.now at.hand run.from k) all at.invariant.5
