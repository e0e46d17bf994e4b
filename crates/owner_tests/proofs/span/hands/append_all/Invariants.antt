use Rattle.grow_core.specs.Vector.{IsHandOf}
use Rattle.span_core.specs.Hands.{KeepsShares}
use Rattle.owner_tests.proofs.span.hands.append_all.Given as goal

abbrev pub invariant-loop-count : goal.invariant-loop-count
invariant-loop-count g l = IsHandOf l.vector l.hand × KeepsShares l.fn.hand l.hand
