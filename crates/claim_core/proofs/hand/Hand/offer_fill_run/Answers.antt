use Rattle.claim_core.proofs.RunSteps.{may_fill_run}
use Rattle.claim_core.proofs.hand.Hand.offer_fill_run.Goals as goal

pub lend_run-requires-clause-may : goal.lend_run-requires-clause-may
lend_run-requires-clause-may g c = may_fill_run _ _ _ _ c.requires.found c.requires.claimed.0 c.requires.claimed.1
