use Rattle.model_tests.proofs.NextSteps.{begins_take_the_slot, moves_are_the_actors_claims, nothing_is_claimed_by_nothing}
use Rattle.model_tests.proofs.plays.every_play.steps_known.Goals as goal

pub returns-clause-begins : goal.returns-clause-begins
returns-clause-begins c = begins_take_the_slot c.tiling.ensures

pub returns-clause-moves : goal.returns-clause-moves
returns-clause-moves c = moves_are_the_actors_claims c.interleavings.ensures

pub returns-clause-nothing : goal.returns-clause-nothing
returns-clause-nothing c = nothing_is_claimed_by_nothing c.interleavings.ensures
