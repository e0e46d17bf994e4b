use Rattle.claim_core.proofs.word.Word.meet.Given as goal

-- each has the runs and shares that it had
abbrev pub ghosts-show : goal.ghosts-show
ghosts-show g a = record { kept_runs = a.seat.now.me.0.mine; kept_shares = a.seat.now.me.0.shares; given_runs = a.other.me.0.mine; given_shares = a.other.me.0.shares }
