-- By the public laws of the word's rule.
use Rattle.memory_tests.proofs.StepsInARow.{begun_filled, not_begun}
use Rattle.memory_tests.proofs.claim.steps.begun_places_are_filled.Goals as goal

pub returns-clause-filled : goal.returns-clause-filled
returns-clause-filled c = begun_filled c.begins_are_permitted.ensures.load c.writes_are_permitted.ensures.fills c.events_follow.ensures

pub returns-clause-not_begun : goal.returns-clause-not_begun
returns-clause-not_begun c = not_begun c.begins_are_permitted.ensures.load
