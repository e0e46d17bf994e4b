use Rattle.claim_core.proofs.Permits.{permits_entry, permits_adoption}
use Rattle.claim_core.proofs.step_laws.entries_are_permitted.Goals as goal

pub returns-clause-empty : goal.returns-clause-empty
returns-clause-empty c = λ terms id from n v hand whole unlaid past. permits_entry terms id v hand.limit hand.base hand.filled hand.part whole from n unlaid past

pub returns-clause-adopted : goal.returns-clause-adopted
returns-clause-adopted c = λ terms id from n v hand whole unlaid. permits_adoption terms id v hand.limit hand.base hand.filled hand.part whole from n unlaid
