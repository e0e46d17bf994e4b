-- what is pushed and what is left to push are all of it
use Rattle.std.proofs.Common.{◌≡◌, ◌++◌, ◌-◌, ◌+◌}
use Rattle.book_core.specs.Events.{breaks}
use Rattle.step_core.proofs.calls.whole_call.push_breaks.Given as goal

abbrev pub invariant-loop-place : goal.invariant-loop-place
invariant-loop-place l =
    l.events.items ++ breaks l.actor l.place (l.from + l.n - l.place) ≡ l.fn.events.items ++ breaks l.actor l.from l.n
