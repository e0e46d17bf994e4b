use Rattle.claim_core.specs.History.{full_note, growth_note}
use Rattle.grow_core.proofs.vector.Shared.try_push_near.Given as goal

-- the load logs the refusal of a growth that finds no room
abbrev pub ghosts-size_as : goal.ghosts-size_as
ghosts-size_as g a = record { note = growth_note a.self.now.limit 1 }

-- so does an exchange that is lost
abbrev pub ghosts-exchange_as : goal.ghosts-exchange_as
ghosts-exchange_as g a = record { note = full_note a.self.now.limit a.n }
