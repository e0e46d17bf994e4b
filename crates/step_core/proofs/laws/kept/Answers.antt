use Rattle.step_core.proofs.atomic_steps.Legal.{every_play_keeps_filled_cells, every_play_keeps_broken_cells}
use Rattle.step_core.proofs.laws.kept.Goals as goal

pub returns-clause-filled : goal.returns-clause-filled
returns-clause-filled c = every_play_keeps_filled_cells

pub returns-clause-broken : goal.returns-clause-broken
returns-clause-broken c = every_play_keeps_broken_cells
