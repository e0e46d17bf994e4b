use Rattle.claim_core.proofs.MaySteps.{may_spoil}
use Rattle.claim_core.proofs.hand.Hand.offer_spoil.Goals as goal

pub lend-requires-clause-may : goal.lend-requires-clause-may
lend-requires-clause-may g c = may_spoil _ _ _ c.requires.found c.requires.seen
