use Rattle.grow_core.specs.Vector.{IsHandOf}
use Rattle.costs.proofs.growths.append_copies.Given as goal

abbrev pub invariant-loop-growth : goal.invariant-loop-growth
invariant-loop-growth g l = IsHandOf l.vector l.hand
