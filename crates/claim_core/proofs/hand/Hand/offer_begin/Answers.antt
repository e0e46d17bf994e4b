use Rattle.claim_core.proofs.MaySteps.{may_begin}
use Rattle.claim_core.proofs.hand.Hand.offer_begin.Goals as goal

pub lend-requires-clause-may : goal.lend-requires-clause-may
lend-requires-clause-may g c = may_begin _ _ _ c.requires.found c.requires.own c.requires.unknown
