use Rattle.claim_core.specs.History.{range_note}
use Rattle.grow_core.proofs.vector.Shared.size_past.Given as goal

-- the load logs a look at a place that is not below the size
abbrev pub ghosts-size_as : goal.ghosts-size_as
ghosts-size_as g a = record { note = range_note a.about }
