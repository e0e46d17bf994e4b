-- what has happened, and then what is left to happen, is all of it
use Rattle.std.proofs.Common.{◌≡◌, drop}
use Rattle.step_core.specs.calls.Play.{with_events}
use Rattle.step_core.proofs.calls.schedule.CallPlay.record_events.Given as goal

abbrev pub invariant-loop-event : goal.invariant-loop-event
invariant-loop-event l = record {
  so_far : with_events l.self (drop l.event-index l.events) ≡ with_events l.fn.self l.events;
  counts : l.self.counts ≡ l.fn.self.counts;
  ended : l.self.ended ≡ l.fn.self.ended;
}
