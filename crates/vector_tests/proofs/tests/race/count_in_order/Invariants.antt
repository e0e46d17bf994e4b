use Rattle.std.proofs.Common.{◌≡◌}
use Rattle.vector_tests.proofs.tests.race.count_in_order.Given as goal

abbrev pub invariant-loop-place : goal.invariant-loop-place
invariant-loop-place l = (l.hand.of ≡ l.fn.hand.of)
