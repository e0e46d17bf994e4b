-- In each turn, the hand is one of the vector.
use Rattle.grow_core.specs.Vector.{IsHandOf}
use Rattle.costs.proofs.growths.append_lists.Given as goal

abbrev pub invariant-loop-i : goal.invariant-loop-i
invariant-loop-i g l = IsHandOf l.vector l.hand
