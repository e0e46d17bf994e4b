use Rattle.claim_core.proofs.word.Word.enter.Given as goal

-- the entry has these places
abbrev pub ghosts-enter_at : goal.ghosts-enter_at
ghosts-enter_at g a = record { from = a.from; n = a.n; first = 0 }
