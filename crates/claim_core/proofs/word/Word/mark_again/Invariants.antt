use Rattle.claim_core.proofs.word.Word.mark_again.Given as goal

-- the seat gets the numbers of the mark
abbrev pub ghosts-label : goal.ghosts-label
ghosts-label g a = record { numbers = a.mark.now.numbers }
