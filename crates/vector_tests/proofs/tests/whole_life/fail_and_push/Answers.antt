use Rattle.vector_tests.proofs.WholeLife.{pushed_is_kept}
use Rattle.vector_tests.proofs.tests.whole_life.fail_and_push.Goals as goal

pub returns-in-Ok-clause-kept : goal.returns-in-Ok-clause-kept
returns-in-Ok-clause-kept c =
    pushed_is_kept c.args.vector.now c.args.value c.fail_once.new.hand c.try_push_back.new.hand _ c.in-Ok.ensures.won c.in-Ok.ensures.logs
