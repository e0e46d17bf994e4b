use Rattle.claim_core.proofs.HistoryLaws.{first_places}
use Rattle.claim_core.proofs.laws.first_places_are_told.Goals as goal

pub returns : goal.returns
returns c = first_places
