use Rattle.std.specs.List.{All}
use Rattle.std.specs.Vec.Iter.{into_iter_items}
use Rattle.grow_core.specs.Vector.{IsHandOf}
use Rattle.costs.proofs.stress.job.join_all.Given as goal

abbrev pub invariant-loop-other : goal.invariant-loop-other
invariant-loop-other l = IsHandOf l.vector l.hand × All (IsHandOf l.vector) (into_iter_items l.other-iterator)
