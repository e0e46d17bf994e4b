use Rattle.claim_core.specs.History.{reach_note}
use Rattle.grow_core.proofs.vector.Shared.size_up_to.Given as goal

-- the load logs what the size decides of a growth up to a size
abbrev pub ghosts-size_as : goal.ghosts-size_as
ghosts-size_as g a = record { note = reach_note a.self.now.word.limit a.about }
