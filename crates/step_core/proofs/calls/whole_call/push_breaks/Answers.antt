use Rattle.step_core.proofs.whole_calls.Events.{one_more_place}
use Rattle.step_core.proofs.calls.whole_call.push_breaks.Goals as goal

pub loop-place-preserved : goal.loop-place-preserved
loop-place-preserved c =
    rw c.in_ok-push.ensures.items (one_more_place _ _ _ _ _ c.loop-place-test.true c.loop-place.invariant)
