use Rattle.std.specs.List.{All}
use Rattle.grow_core.specs.Vector.{IsHandOf}
use Rattle.costs.proofs.shared_vector.hands_for.Given as goal

abbrev pub invariant-loop-hand : goal.invariant-loop-hand
invariant-loop-hand l = IsHandOf l.vector l.hand × All (IsHandOf l.vector) l.hands.items
