use Rattle.grow_core.specs.Vector.{IsHandOf}
use Rattle.vector_tests.proofs.tests.mixed.call_each.Given as goal

abbrev pub invariant-loop-number : goal.invariant-loop-number
invariant-loop-number g l = IsHandOf l.vector l.hand
