use Rattle.std.proofs.Common.{List, sym, ◌∙◌, subst}
use Rattle.cell_core.specs.Block.{PenView}
use Rattle.claim_core.specs.Hand.{HandView}
use Rattle.claim_core.specs.History.{Log, Adds}
use Rattle.grow_core.specs.Logs.{mend_steps}
use Rattle.grow_core.specs.Shown.{unmended_steps}
use Rattle.grow_core.specs.Steps.{FindsMore}
use Rattle.grow_core.specs.Vector.{limit_of}
use Rattle.grow_core.proofs.Adds.{steps_after}
use Rattle.grow_core.proofs.FinishedPlaces.{mended_steps, no_mend}
use Rattle.grow_core.proofs.TiedSteps.{found_tried}
use Rattle.grow_core.proofs.Works.{finds_on, hand_still}
use Rattle.grow_core.proofs.vector.Shared.mend_seen.Goals as goal

pub invariant_of-hand : goal.invariant_of-hand
invariant_of-hand g c =
    hand_still c.hand.inside.claims c.scout_tied.new.claims c.scout_tied.ensures.finds.keeps c.scout_tied.ensures.finds.rows c.hand.inside.keys c.hand.invariant

pub invariant_of-hand-in-Ok : goal.invariant_of-hand-in-Ok
invariant_of-hand-in-Ok g c =
    let hand = c.hand.inside.claims in let found = c.scout_tied.new.claims in let took = c.take_tied.new.claims in let new = c.fill_taken-cell.new.claims in
    let finds = finds_on hand took new (finds_on hand found took c.scout_tied.ensures.finds c.take_tied.ensures.logs.finds) c.fill_taken-cell.ensures.logs.finds in
    hand_still hand new finds.keeps finds.rows c.hand.inside.keys c.hand.invariant

pub invariant_of-hand-in-Err : goal.invariant_of-hand-in-Err
invariant_of-hand-in-Err g c =
    let hand = c.hand.inside.claims in let found = c.scout_tied.new.claims in let took = c.take_tied.new.claims in
    let finds = finds_on hand found took c.scout_tied.ensures.finds c.take_tied.ensures.logs.finds in
    hand_still hand took finds.keeps finds.rows c.hand.inside.keys c.hand.invariant

pub returns-in-Ok-clause-finds : goal.returns-in-Ok-clause-finds
returns-in-Ok-clause-finds g c =
    let hand = c.hand.inside.claims in let found = c.scout_tied.new.claims in let took = c.take_tied.new.claims in let new = c.fill_taken-cell.new.claims in
    subst (λ (h : HandView). FindsMore h new) c.hand.view_is
    (finds_on hand took new (finds_on hand found took c.scout_tied.ensures.finds c.take_tied.ensures.logs.finds) c.fill_taken-cell.ensures.logs.finds)

-- the step that took the place, and then the one that filled it
pub returns-in-Ok-clause-mends : goal.returns-in-Ok-clause-mends
returns-in-Ok-clause-mends g c =
    let hand = c.hand.inside.claims in let found = c.scout_tied.new.claims in let took = c.take_tied.new.claims in let new = c.fill_taken-cell.new.claims in
    let steps : List Log = mend_steps (limit_of c.args.self.now) c.args.place in
    let adds : Adds found.log steps new.log =
    mended_steps found.log took.log new.log (limit_of c.args.self.now) c.args.place c.in-Ok.ensures.logs.adds c.fill_taken-cell.ensures.logs.adds in
    subst (λ (h : HandView). Adds h.log steps new.log) c.hand.view_is (steps_after hand.log found.log new.log steps c.scout_tied.ensures.finds.more adds)

-- the look that says why the place was not taken
pub returns-in-Err-clause-mends : goal.returns-in-Err-clause-mends
returns-in-Err-clause-mends g c =
    let hand = c.hand.inside.claims in let found = c.scout_tied.new.claims in let took = c.take_tied.new.claims in
    let steps : List Log = unmended_steps c.args.place c.unmended.result in
    let same = sym (found_tried PenView (limit_of c.args.self.now) c.args.place c.in-Err.found) ∙ sym (c.unmended.ensures.steps c.args.place) in
    let adds : Adds found.log steps took.log = subst (λ (l : List Log). Adds found.log l took.log) same c.in-Err.ensures.logs.adds in
    no_mend c.args.self.now c.args.place _ c.args.hand.now took c.unmended.result c.args.value c.unmended.ensures.refused
    (subst (λ (h : HandView). Adds h.log steps took.log) c.hand.view_is (steps_after hand.log found.log took.log steps c.scout_tied.ensures.finds.more adds))
