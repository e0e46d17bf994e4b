use Rattle.std.proofs.Common.{IfOk}
use Rattle.std.specs.List.{All}
use Rattle.std.specs.Vec.Iter.{into_iter_items}
use Rattle.grow_core.specs.Vector.{IsHandOf}
use Rattle.costs.proofs.stress.join_outcomes.Given as goal

abbrev pub invariant-loop-outcome : goal.invariant-loop-outcome
invariant-loop-outcome l =
    IsHandOf l.vector l.hand
    × All (λ o. IfOk o (λ o. IsHandOf l.vector o.hand)) (into_iter_items l.outcome-iterator)
