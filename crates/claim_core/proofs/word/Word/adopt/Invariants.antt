use Rattle.claim_core.proofs.word.Word.adopt.Given as goal

-- the entry has these places
abbrev pub ghosts-adopt_at : goal.ghosts-adopt_at
ghosts-adopt_at g a = record { from = a.from; n = a.n; first = 0 }
