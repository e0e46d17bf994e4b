-- What reading a script gives the engine: only its own functions and proofs cite these.
use Rattle.std.specs.Prelude.{◌≡◌, ◌≤◌, length}
use Rattle.seg_core.specs.Segment.{IsLayout, IsLimit}
use Rattle.book_core.specs.Commands.{AreSound, HavePrograms}
use Rattle.script_core.specs.declared.script.Script.{Script}

-- the script can be played: it has a layout and a limit, each actor has a letter, commands are sound, and
-- items are of its actors
pub record IsPlayable (s : Script) : Type 0 where
  pub layout : IsLayout s.first
  pub limit : IsLimit s.limit
  pub few : length s.programs ≤ 16
  pub letters : length s.names ≡ length s.programs
  pub sound : AreSound s.programs
  pub actors : HavePrograms s.programs s.items
