use Rattle.vector_tests.proofs.Filled.{still_done}
use Rattle.vector_tests.proofs.tests.filled.work_by_two.Goals as goal

pub returns-clause-first : goal.returns-clause-first
returns-clause-first g c = still_done c.steps_stay.ensures _ _ _ 2 _ _ _ _ _ _ c.join-all.ensures.first.1.1 c.join.ensures.begins_log

pub returns-clause-second : goal.returns-clause-second
returns-clause-second g c = still_done c.steps_stay.ensures _ _ _ 2 _ _ _ _ _ _ c.join-all.ensures.second.1.1 c.join.ensures.also_begins_log
