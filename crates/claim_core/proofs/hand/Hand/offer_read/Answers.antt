use Rattle.claim_core.proofs.MaySteps.{may_read}
use Rattle.claim_core.proofs.hand.Hand.offer_read.Goals as goal

pub lend-requires-clause-may : goal.lend-requires-clause-may
lend-requires-clause-may g c = may_read _ _ _ c.requires.found c.requires.whole
