-- By the public clauses of the hand.
use Rattle.std.proofs.Common.{ap, ◌∙◌}
use Rattle.claim_core.specs.Hand.{seen_size}
use Rattle.memory_tests.proofs.OffersInARow.{lent_seen}
use Rattle.memory_tests.proofs.claim.offers.lend_to_exchange.Goals as goal

pub visit_publish-visit-requires-clause-places : goal.visit_publish-visit-requires-clause-places
visit_publish-visit-requires-clause-places g c = (c.requires.places.0, c.requires.places.1)

pub returns : goal.returns
returns g c = record { seen = c.seen.ensures ∙ (ap seen_size c.visit_publish-visit.ensures.lent.is ∙ lent_seen c.args.hand.now) }
