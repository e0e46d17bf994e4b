-- the cells so far, and then those of the owners that are left, are all of them
use Rattle.std.proofs.Common.{◌≡◌, ◌++◌, drop, length}
use Rattle.std.specs.FinMap as map
use Rattle.step_core.specs.machine.Owners.{cells_from}
use Rattle.step_core.proofs.machine.schedule.MachinePlay.cells.Given as goal

abbrev pub invariant-loop-owner : goal.invariant-loop-owner
invariant-loop-owner l = record {
  so_far : l.cells.items ++ cells_from (map.get l.self.at.storage.slots) (length l.cells.items) (drop l.owner-index l.owners) ≡ cells_from (map.get l.self.at.storage.slots) 0 l.owners;
}
