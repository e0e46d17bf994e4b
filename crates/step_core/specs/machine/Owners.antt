-- The claimed places in order, each with its owner: how a play's cells are made.
use Rattle.std.specs.Prelude.{ℕ, ◌+◌, List, [], ◌∷◌, ◌++◌, replicate, Option, Some}
use Rattle.std.specs.FinMap.{get}
use Rattle.book_core.specs.declared.cells.Cell.{Cell}
use Rattle.book_core.specs.History.{OwnedRun, runs_of}
use Rattle.step_core.specs.declared.machine.phase.CellSlot.{CellSlot}
use Rattle.step_core.specs.declared.programs.Played.{Played}
use Rattle.book_core.specs.declared.commands.Work.{Work}
use Rattle.step_core.specs.machine.Play.{Play, cell_of}

-- the owner of each place of runs that follow each other
abbrev pub owners_of : List OwnedRun → List ℕ
owners_of [] = []
owners_of (run ∷ runs) = replicate run.n run.owner ++ owners_of runs

-- the cells of places from one on, by their owners
abbrev pub cells_from : (ℕ → Option CellSlot) → ℕ → List ℕ → List Cell
cells_from slot place [] = []
cells_from slot place (owner ∷ owners) = cell_of (Some owner) (slot place) ∷ cells_from slot (place + 1) owners

-- what a play shows if its runs follow each other, with what its calls took
abbrev pub played_by_owners : Play → List Work → Played
played_by_owners p work = record {
  events = p.events;
  ended = p.ended;
  cells = cells_from (get p.at.storage.slots) 0 (owners_of (runs_of p.events));
  work = work;
}
