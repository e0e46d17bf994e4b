use Rattle.claim_core.proofs.Permits.{permits_begin, permits_try}
use Rattle.claim_core.proofs.step_laws.begins_are_permitted.Goals as goal

pub returns-clause-load : goal.returns-clause-load
returns-clause-load c = λ terms id seat place index v at owns unknown. permits_begin terms id v at.hand.limit at.hand.base at.hand.filled at.hand.part place seat at.found index owns.owned owns.in_run unknown

pub returns-clause-exchange : goal.returns-clause-exchange
returns-clause-exchange c = λ terms id seat place index v at owns. permits_try terms id v at.hand.limit at.hand.base at.hand.filled at.hand.part place seat at.found index owns.owned owns.in_run
