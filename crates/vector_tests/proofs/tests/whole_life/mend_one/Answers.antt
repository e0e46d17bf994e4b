use Rattle.vector_tests.proofs.WholeLife.{mended_is_kept}
use Rattle.vector_tests.proofs.tests.whole_life.mend_one.Goals as goal

pub returns-in-Ok-clause-kept : goal.returns-in-Ok-clause-kept
returns-in-Ok-clause-kept c =
    let mended = c.in-Ok.ensures in
    mended_is_kept c.args.vector.now c.args.place c.args.value c.args.hand c.mend.new.hand _ mended.token mended.here mended.value mended.below mended.mends
