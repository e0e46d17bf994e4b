use Rattle.claim_core.proofs.Permits.{permits_fill, permits_break, permits_mend}
use Rattle.claim_core.proofs.step_laws.writes_are_permitted.Goals as goal

pub returns-clause-fills : goal.returns-clause-fills
returns-clause-fills c = λ terms id seat place index v at known. permits_fill terms id v at.hand.limit at.hand.base at.hand.filled at.hand.part place seat at.found index known

pub returns-clause-breaks : goal.returns-clause-breaks
returns-clause-breaks c = λ terms id seat place index v at known. permits_break terms id v at.hand.limit at.hand.base at.hand.filled at.hand.part place seat at.found index known

pub returns-clause-mends : goal.returns-clause-mends
returns-clause-mends c = λ terms id seat place v at below. permits_mend terms id v at.hand.limit at.hand.base at.hand.filled at.hand.part place seat at.found below
