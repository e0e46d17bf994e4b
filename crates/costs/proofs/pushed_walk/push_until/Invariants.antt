use Rattle.grow_core.specs.Vector.{IsHandOf}
use Rattle.costs.proofs.pushed_walk.push_until.Given as goal

abbrev pub invariant-loop-value : goal.invariant-loop-value
invariant-loop-value g l = IsHandOf l.vector l.hand
