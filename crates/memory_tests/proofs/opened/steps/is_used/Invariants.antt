use Rattle.memory_tests.proofs.opened.steps.is_used.Given as goal

-- the entry has the places of its tag
abbrev pub ghosts-find : goal.ghosts-find
ghosts-find a = record { from = 0; n = 32; first = 0 }
