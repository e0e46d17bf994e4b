use Rattle.race_core.proofs.Wins.{ArePut}
use Rattle.race_core.proofs.history.sort_wins.Given as goal

abbrev pub invariant-loop-win : goal.invariant-loop-win
invariant-loop-win l = ArePut l.size l.wins l.win-index l.slots.items
