use Rattle.claim_core.proofs.MaySteps.{may_mend}
use Rattle.claim_core.proofs.hand.Hand.offer_mend.Goals as goal

pub lend-requires-clause-may : goal.lend-requires-clause-may
lend-requires-clause-may g c = may_mend _ _ _ c.requires.found c.requires.seen
