use Rattle.step_core.proofs.atomic_steps.Tiling.{every_play_is_tiled}
use Rattle.step_core.proofs.laws.tiling.Goals as goal

pub returns : goal.returns
returns c = every_play_is_tiled
