-- the machine is at the configuration of the play of the items so far
use Rattle.std.proofs.Common.{◌≡◌, take}
use Rattle.step_core.specs.machine.Play.{play_of}
use Rattle.model_tests.proofs.plays.uses.stepped.Given as goal

abbrev pub invariant-loop-item : goal.invariant-loop-item
invariant-loop-item l = l.machine ≡ (play_of l.fn.layout l.limit l.fn.programs (take l.item-index l.items)).at
