use Rattle.grow_core.specs.Vector.{IsHandOf}
use Rattle.vector_tests.proofs.tests.asked.try_to_win.Given as goal

abbrev pub invariant-loop-try : goal.invariant-loop-try
invariant-loop-try g l = IsHandOf l.vector l.hand
