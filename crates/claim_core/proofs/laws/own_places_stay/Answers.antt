use Rattle.claim_core.proofs.OwnPlaces.{own_places_stay}
use Rattle.claim_core.proofs.laws.own_places_stay.Goals as goal

pub returns : goal.returns
returns c = own_places_stay
