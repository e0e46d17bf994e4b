use Rattle.step_core.proofs.atomic_steps.Claims.{every_play_moves_at_claims, every_move_is_own, every_nothing_is_at_load}
use Rattle.step_core.proofs.atomic_steps.Legal.{every_play_is_legal, every_play_keeps_filled_cells, every_play_keeps_broken_cells}
use Rattle.step_core.proofs.atomic_steps.Record.{every_play_is_recorded}
use Rattle.step_core.proofs.atomic_steps.Tiling.{every_play_is_tiled}
use Rattle.step_core.proofs.laws.interleavings.Goals as goal

pub returns : goal.returns
returns c = λ f is_layout limit programs items is_limit sound. record {
  legal = every_play_is_legal f is_layout limit programs items is_limit;
  recorded = every_play_is_recorded f is_layout limit programs items is_limit sound;
  at_claims = every_play_moves_at_claims f is_layout limit programs items is_limit;
  own_claims = every_move_is_own f is_layout limit programs items is_limit sound;
  nothing_at_load = every_nothing_is_at_load f is_layout limit programs items is_limit sound;
  tiled = every_play_is_tiled f is_layout limit programs items is_limit;
  kept = every_play_keeps_filled_cells f is_layout limit programs items is_limit;
  stays_broken = every_play_keeps_broken_cells f is_layout limit programs items is_limit;
}
