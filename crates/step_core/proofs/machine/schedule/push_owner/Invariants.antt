-- this many have been pushed
use Rattle.std.proofs.Common.{◌≡◌, ◌++◌, replicate}
use Rattle.step_core.proofs.machine.schedule.push_owner.Given as goal

abbrev pub invariant-loop-more : goal.invariant-loop-more
invariant-loop-more l = l.owners.items ≡ l.fn.owners.items ++ replicate l._more l.owner
