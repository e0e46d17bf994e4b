use Rattle.std.proofs.Common.{ℕ, ◌≡◌, ◌<◌, length, true, false, List}
use Rattle.std.specs.Prelude.{get_or}
use base.Fml.{Lft}
use Rattle.cell_core.specs.Block.{BlockView, block_len}
use Rattle.cell_core.specs.Member.{MemberView}
use Rattle.memory_tests.specs.Opened.{IsListIn, values_of}
use Rattle.memory_tests.proofs.opened.list.fill_by_turns.Given as goal

-- the list has this number of members, and the first has a value
pub record Turns {T : Type 0} (old now : BlockView) (row : List (MemberView T)) (epoch : Lft) (place : ℕ) : Type 0 where
  pub list : IsListIn now row epoch
  pub all : length row ≡ place
  pub first : 0 < place → get_or (values_of row) 0 false ≡ true
  pub len : block_len now ≡ block_len old

abbrev pub invariant-loop-place : goal.invariant-loop-place
invariant-loop-place l = Turns l.fn.cells l.cells l.row l.epoch l.place
