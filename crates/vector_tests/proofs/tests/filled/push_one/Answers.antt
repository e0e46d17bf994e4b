use Rattle.vector_tests.proofs.Filled.{finished_by_push}
use Rattle.vector_tests.proofs.tests.filled.push_one.Goals as goal

pub returns-in-Ok-clause-filled : goal.returns-in-Ok-clause-filled
returns-in-Ok-clause-filled c = finished_by_push c.args.hand c.try_push_back.new.hand _ c.in-Ok.ensures.logs
