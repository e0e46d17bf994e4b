use Rattle.grow_core.specs.Vector.{IsHandOf}
use Rattle.vector_tests.proofs.tests.race.work.work_each.Given as goal

abbrev pub invariant-loop-j : goal.invariant-loop-j
invariant-loop-j g l = IsHandOf l.vector l.hand
