use Rattle.std.proofs.Common.{◌∙◌}
use Rattle.step_core.proofs.whole_calls.Events.{next_is_legal, after_next}
use Rattle.step_core.proofs.calls.schedule.CallPlay.record_events.Goals as goal

pub record_event-requires : goal.record_event-requires
record_event-requires c = next_is_legal _ _ _ _ _ c.loop-event-test.true c.loop-event.invariant.so_far c.requires

pub loop-event-preserved : goal.loop-event-preserved
loop-event-preserved c = record {
  so_far = after_next _ _ _ _ _ _ c.loop-event-test.true c.loop-event.invariant.so_far c.in_ok-record_event.ensures.ok;
  counts = c.record_event.ensures.kept.0 ∙ c.loop-event.invariant.counts;
  ended = c.record_event.ensures.kept.1 ∙ c.loop-event.invariant.ended;
}
