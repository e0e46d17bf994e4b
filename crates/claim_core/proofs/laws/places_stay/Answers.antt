use Rattle.claim_core.proofs.Places.{places_stay}
use Rattle.claim_core.proofs.laws.places_stay.Goals as goal

pub returns : goal.returns
returns c = places_stay
