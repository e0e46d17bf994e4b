use Rattle.step_core.proofs.atomic_steps.Traces.{every_item_is_traced}
use Rattle.step_core.proofs.laws.traces.Goals as goal

pub returns : goal.returns
returns c = every_item_is_traced
