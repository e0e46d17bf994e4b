use Rattle.claim_core.proofs.RunSteps.{may_begin_run}
use Rattle.claim_core.proofs.hand.Hand.offer_begin_run.Goals as goal

pub lend_run-requires-clause-may : goal.lend_run-requires-clause-may
lend_run-requires-clause-may g c = may_begin_run _ _ _ _ c.requires.found c.requires.own c.requires.unknown
