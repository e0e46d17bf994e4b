use Rattle.grow_core.specs.Vector.{IsHandOf}
use Rattle.costs.proofs.stress.compare.compare_places.Given as goal

abbrev pub invariant-loop-place : goal.invariant-loop-place
invariant-loop-place l = IsHandOf l.vector l.hand
