use Rattle.handle_core.specs.Lists.{AreValues}
use Rattle.handle_core.proofs.members.are_values.Given as goal

abbrev pub invariant-loop-i : goal.invariant-loop-i
invariant-loop-i g l = AreValues l.place l.i l.list
