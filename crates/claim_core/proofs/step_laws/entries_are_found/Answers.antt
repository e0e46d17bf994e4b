use Rattle.claim_core.proofs.Permits.{permits_no_entry, permits_nothing, permits_row}
use Rattle.claim_core.proofs.step_laws.entries_are_found.Goals as goal

pub returns-clause-bare : goal.returns-clause-bare
returns-clause-bare c = λ terms id seat place from n v hand low high below. permits_no_entry terms id v hand.limit hand.base hand.filled hand.part place seat from n low high below

pub returns-clause-rows : goal.returns-clause-rows
returns-clause-rows c = λ terms id seat from n v hand. permits_row terms id v hand.limit hand.base hand.filled hand.part seat from n

pub returns-clause-nothing : goal.returns-clause-nothing
returns-clause-nothing c = λ terms id seat from n v hand. permits_nothing terms id v hand.limit hand.base hand.filled hand.part seat from n
