use Rattle.vector_tests.proofs.Filled.{owned_if_refused}
use Rattle.vector_tests.proofs.tests.filled.refuse_second.Goals as goal

pub returns-clause-owned : goal.returns-clause-owned
returns-clause-owned c =
    owned_if_refused c.added_runs_are_owned.ensures c.args.vector.now 2 tt c.args.hand.now c.try_grow_with.new.hand c.try_grow_with.result c.try_grow_with.ensures.refused
