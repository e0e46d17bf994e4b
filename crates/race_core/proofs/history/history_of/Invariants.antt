use Rattle.std.proofs.Common.{length}
use Rattle.race_core.proofs.Wins.{LeadsTo}
use Rattle.race_core.proofs.history.history_of.Given as goal

abbrev pub invariant-loop-slot : goal.invariant-loop-slot
invariant-loop-slot l = LeadsTo (length l.slots) l.history.items l.slot-index
