use Rattle.model_tests.proofs.CallSteps.{ended_calls_are_within, calls_under_way_are_within}
use Rattle.model_tests.proofs.ClaimedPlaces.{whole_calls_claim}
use Rattle.model_tests.proofs.plays.every_play.calls_known.Goals as goal

pub returns-clause-ended : goal.returns-clause-ended
returns-clause-ended c = ended_calls_are_within c.work.ensures

pub returns-clause-under_way : goal.returns-clause-under_way
returns-clause-under_way c = calls_under_way_are_within c.work.ensures

pub returns-clause-whole : goal.returns-clause-whole
returns-clause-whole c = whole_calls_claim c.whole_calls.ensures.plays c.whole_calls.ensures.legal c.runs_tile.ensures
