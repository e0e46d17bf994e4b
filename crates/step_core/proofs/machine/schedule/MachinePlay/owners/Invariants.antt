-- the owners so far, and then those of the events that are left, are all of them
use Rattle.std.proofs.Common.{◌≡◌, ◌++◌, drop}
use Rattle.book_core.specs.History.{runs_of}
use Rattle.step_core.specs.machine.Owners.{owners_of}
use Rattle.step_core.proofs.machine.schedule.MachinePlay.owners.Given as goal

abbrev pub invariant-loop-row : goal.invariant-loop-row
invariant-loop-row l = l.owners.items ++ owners_of (runs_of (drop l.row-index l.self.events)) ≡ owners_of (runs_of l.self.events)
