use Rattle.std.proofs.Common.{rules, ◌≤◌}
use Rattle.claim_core.specs.History.{Adds}
use Rattle.grow_core.specs.Logs.{step_of, broken_look, pending_look, value_look}
use Rattle.grow_core.proofs.Adds.{steps_after}
use Rattle.grow_core.proofs.FinishedPlaces.{not_broken, not_past, not_pending}
use Rattle.grow_core.proofs.vector.Shared.at.Goals as goal

-- a place that the hand had seen finished is below the size, and its value is found
pub returns-then-place-size-clause-finished : goal.returns-then-place-size-clause-finished
returns-then-place-size-clause-finished g c done =
    let past : c.size_seen-size.result ≤ c.args.place = search rules in
    absurd (not_past c.args.hand.now c.size_seen-size.new.hand c.args.place done c.laws.ensures.history c.finished_places_are_found.ensures c.size_seen-size.result (c.size_seen-size.ensures.past past))

pub returns-in-Pending-clause-looks : goal.returns-in-Pending-clause-looks
returns-in-Pending-clause-looks g c none =
    steps_after c.args.hand.now.log c.size_seen-size.new.hand.log c.look_for-shown.new.hand.log (step_of (pending_look c.args.place)) c.size_seen-size.ensures.goes_on (c.in-Pending.ensures.logs)

pub returns-in-Pending-clause-finished : goal.returns-in-Pending-clause-finished
returns-in-Pending-clause-finished g c done =
    let adds : Adds c.args.hand.now.log (step_of (pending_look c.args.place)) c.look_for-shown.new.hand.log =
    steps_after c.args.hand.now.log c.size_seen-size.new.hand.log c.look_for-shown.new.hand.log (step_of (pending_look c.args.place)) c.size_seen-size.ensures.goes_on (c.in-Pending.ensures.logs) in
    absurd (not_pending c.args.hand.now c.look_for-shown.new.hand c.args.place done c.laws-2.ensures.history c.finished_places_are_found.ensures adds)

pub returns-in-Filled-clause-looks : goal.returns-in-Filled-clause-looks
returns-in-Filled-clause-looks g c none =
    steps_after c.args.hand.now.log c.size_seen-size.new.hand.log c.look_for-shown.new.hand.log (step_of (value_look c.args.place)) c.size_seen-size.ensures.goes_on (c.in-Filled.ensures.logs)

pub returns-in-Broken-clause-looks : goal.returns-in-Broken-clause-looks
returns-in-Broken-clause-looks g c none =
    steps_after c.args.hand.now.log c.size_seen-size.new.hand.log c.look_for-shown.new.hand.log (step_of (broken_look c.args.place)) c.size_seen-size.ensures.goes_on (c.in-Broken.ensures.logs)

pub returns-in-Broken-clause-finished : goal.returns-in-Broken-clause-finished
returns-in-Broken-clause-finished g c done =
    let adds : Adds c.args.hand.now.log (step_of (broken_look c.args.place)) c.look_for-shown.new.hand.log =
    steps_after c.args.hand.now.log c.size_seen-size.new.hand.log c.look_for-shown.new.hand.log (step_of (broken_look c.args.place)) c.size_seen-size.ensures.goes_on (c.in-Broken.ensures.logs) in
    absurd (not_broken c.args.hand.now c.look_for-shown.new.hand c.args.place done c.laws-2.ensures.history c.finished_places_are_found.ensures adds)
