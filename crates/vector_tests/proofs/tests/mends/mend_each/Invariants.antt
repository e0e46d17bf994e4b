use Rattle.grow_core.specs.Vector.{IsHandOf}
use Rattle.vector_tests.proofs.tests.mends.mend_each.Given as goal

abbrev pub invariant-loop-place : goal.invariant-loop-place
invariant-loop-place g l = IsHandOf l.vector l.hand
