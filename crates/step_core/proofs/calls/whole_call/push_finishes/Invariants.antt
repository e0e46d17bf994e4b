-- what is pushed and what is left to push are all of it
use Rattle.std.proofs.Common.{◌≡◌, ◌++◌, ◌-◌, ◌+◌}
use Rattle.book_core.specs.Events.{finishes}
use Rattle.step_core.proofs.calls.whole_call.push_finishes.Given as goal

abbrev pub invariant-loop-place : goal.invariant-loop-place
invariant-loop-place l =
    l.events.items ++ finishes l.actor l.place (l.from + l.n - l.place) l.value ≡ l.fn.events.items ++ finishes l.actor l.from l.n l.value
