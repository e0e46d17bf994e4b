use Rattle.claim_core.specs.History.{growth_note}
use Rattle.grow_core.proofs.vector.Shared.size_for.Given as goal

-- the load logs what the size decides of a growth by n places
abbrev pub ghosts-size_as : goal.ghosts-size_as
ghosts-size_as g a = record { note = growth_note a.self.now.word.limit a.about }
