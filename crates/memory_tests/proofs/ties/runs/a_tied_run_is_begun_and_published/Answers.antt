-- By the rule for tests.
use Rattle.memory_tests.proofs.InOrder.{lays_in_order}
use Rattle.memory_tests.proofs.ties.runs.a_tied_run_is_begun_and_published.Goals as goal

pub lay-seats-requires-clause-permits : goal.lay-seats-requires-clause-permits
lay-seats-requires-clause-permits g c = lays_in_order 20
