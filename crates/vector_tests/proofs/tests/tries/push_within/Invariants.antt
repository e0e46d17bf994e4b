use Rattle.grow_core.specs.Vector.{IsHandOf}
use Rattle.vector_tests.proofs.tests.tries.push_within.Given as goal

abbrev pub invariant-loop-try : goal.invariant-loop-try
invariant-loop-try l = IsHandOf l.vector l.hand
