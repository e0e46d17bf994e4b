use Rattle.vector_tests.proofs.Histories.{begins_with_one}
use Rattle.vector_tests.proofs.tests.histories.show_first.Goals as goal

pub returns : goal.returns
returns c = begins_with_one c.args.vector.now c.args.value c.requires.opened c.laws.ensures.opened c.laws.ensures.first
