use Rattle.std.proofs.Common.{IfSome}
use Rattle.std.specs.List.{All}
use Rattle.grow_core.specs.Vector.{IsHandOf, IsPlacedOf}
use Rattle.costs.proofs.stress.job.call_often.Given as goal

abbrev pub invariant-loop-call : goal.invariant-loop-call
invariant-loop-call g l =
    IsHandOf l.vector l.hand
    × All (IsHandOf l.vector) l.others
    × IfSome l.token (IsPlacedOf l.vector)
