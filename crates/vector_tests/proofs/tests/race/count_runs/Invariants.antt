use Rattle.std.proofs.Common.{◌≡◌}
use Rattle.vector_tests.proofs.tests.race.count_runs.Given as goal

abbrev pub invariant-loop-k : goal.invariant-loop-k
invariant-loop-k l = (l.hand.of ≡ l.fn.hand.of)
