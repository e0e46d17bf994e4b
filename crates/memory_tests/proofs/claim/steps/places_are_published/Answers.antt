-- By the public laws of the word's rule.
use Rattle.memory_tests.proofs.StepsInARow.{published}
use Rattle.memory_tests.proofs.claim.steps.places_are_published.Goals as goal

pub returns : goal.returns
returns c = published c.entries_are_permitted.ensures.empty c.blocks_are_permitted.ensures.laying c.blocks_are_permitted.ensures.publishing
