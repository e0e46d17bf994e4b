use Rattle.memory_tests.proofs.opened.steps.is_scouted.Given as goal

-- the entry has the places of its tag
abbrev pub ghosts-scout : goal.ghosts-scout
ghosts-scout a = record { from = 0; n = 32; first = 0 }
