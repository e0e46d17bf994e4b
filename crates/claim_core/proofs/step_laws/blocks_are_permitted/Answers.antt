use Rattle.claim_core.proofs.Permits.{permits_laying, permits_publish, permits_unseen}
use Rattle.claim_core.proofs.step_laws.blocks_are_permitted.Goals as goal

pub returns-clause-laying : goal.returns-clause-laying
returns-clause-laying c = permits_laying

pub returns-clause-publishing : goal.returns-clause-publishing
returns-clause-publishing c = λ terms id entry seat from first n v hand. permits_publish terms id v hand.limit hand.base hand.filled hand.part entry seat from first n

pub returns-clause-unseen : goal.returns-clause-unseen
returns-clause-unseen c = λ terms id entry seat from first n v hand. permits_unseen terms id v hand.limit hand.base hand.filled hand.part entry seat from first n
