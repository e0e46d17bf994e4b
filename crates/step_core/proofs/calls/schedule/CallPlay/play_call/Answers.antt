use Rattle.step_core.proofs.whole_calls.Legal.{call_legal}
use Rattle.step_core.proofs.calls.schedule.CallPlay.play_call.Goals as goal

pub record_events-requires : goal.record_events-requires
record_events-requires c = rw (c.deref.ensures.value, c.in_ok-call.ensures.0, ← c.self.view_is) (call_legal _ _ _ c.requires.sound)
