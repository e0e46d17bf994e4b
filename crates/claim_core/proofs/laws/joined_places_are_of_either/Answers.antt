use Rattle.claim_core.proofs.OwnPlaces.{joined_places}
use Rattle.claim_core.proofs.laws.joined_places_are_of_either.Goals as goal

pub returns : goal.returns
returns c = joined_places
