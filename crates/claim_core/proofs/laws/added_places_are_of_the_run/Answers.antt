use Rattle.claim_core.proofs.OwnPlaces.{added_places}
use Rattle.claim_core.proofs.laws.added_places_are_of_the_run.Goals as goal

pub returns : goal.returns
returns c = added_places
