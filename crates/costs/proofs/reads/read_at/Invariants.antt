-- In each turn, the hand is one of the vector.
use Rattle.grow_core.specs.Vector.{IsHandOf}
use Rattle.costs.proofs.reads.read_at.Given as goal

abbrev pub invariant-loop-read : goal.invariant-loop-read
invariant-loop-read l = IsHandOf l.vector l.hand
