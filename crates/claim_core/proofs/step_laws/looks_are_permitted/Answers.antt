use Rattle.claim_core.proofs.Permits.{permits_look}
use Rattle.claim_core.proofs.step_laws.looks_are_permitted.Goals as goal

pub returns : goal.returns
returns c = λ terms id seat place v at below. permits_look terms id v at.hand.limit at.hand.base at.hand.filled at.hand.part place seat at.found below
