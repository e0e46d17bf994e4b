use Rattle.std.proofs.Common.{◌≡◌, take}
use Rattle.std.specs.List.{sum_by}
use Rattle.race_core.specs.declared.team.Win.{Win}
use Rattle.race_core.proofs.report.sum_of.Given as goal

abbrev pub invariant-loop-win : goal.invariant-loop-win
invariant-loop-win l = l.sum ≡ sum_by (λ (win : Win). win.value) (take l.win-index l.wins)
