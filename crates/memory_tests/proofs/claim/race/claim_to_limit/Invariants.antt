use Rattle.claim_core.specs.Hand.{IsHandOf}
use Rattle.memory_tests.proofs.claim.race.claim_to_limit.Given as goal

abbrev pub invariant-loop-try : goal.invariant-loop-try
invariant-loop-try l = IsHandOf l.word l.hand
