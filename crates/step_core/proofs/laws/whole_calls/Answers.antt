use Rattle.step_core.proofs.whole_calls.History.{calls_play, calls_are_legal}
use Rattle.step_core.proofs.laws.whole_calls.Goals as goal

pub returns-clause-plays : goal.returns-clause-plays
returns-clause-plays c = calls_play

pub returns-clause-legal : goal.returns-clause-legal
returns-clause-legal c = calls_are_legal
