-- In each turn, the hand is one of the word.
use Rattle.claim_core.specs.Hand.{IsHandOf}
use Rattle.costs.proofs.claim_word.claim.Given as goal

abbrev pub invariant-loop-try : goal.invariant-loop-try
invariant-loop-try l = IsHandOf l.word l.hand
