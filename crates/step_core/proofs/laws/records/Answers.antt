use Rattle.step_core.proofs.atomic_steps.Record.{every_play_is_recorded}
use Rattle.step_core.proofs.laws.records.Goals as goal

pub returns : goal.returns
returns c = every_play_is_recorded
