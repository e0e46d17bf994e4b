use Rattle.std.proofs.Common.{◌-◌, []}
use Rattle.claim_core.proofs.word.Word.split.Given as goal

-- the hand keeps its runs
abbrev pub ghosts-give : goal.ghosts-give
ghosts-give g a = record { kept_runs = a.hand.now.mine; kept_shares = a.hand.now.shares - a.shares; given_runs = []; given_shares = a.shares }
