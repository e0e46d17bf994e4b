use Rattle.step_core.proofs.atomic_steps.Legal.{every_play_is_legal}
use Rattle.step_core.proofs.laws.legal.Goals as goal

pub returns : goal.returns
returns c = every_play_is_legal
