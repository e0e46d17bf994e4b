use Rattle.step_core.proofs.atomic_steps.Bounded.{every_call_is_bounded}
use Rattle.step_core.proofs.laws.work.Goals as goal

pub returns : goal.returns
returns c = every_call_is_bounded
