use Rattle.claim_core.proofs.OwnPlaces.{added_own}
use Rattle.claim_core.proofs.laws.added_places_are_owned.Goals as goal

pub returns : goal.returns
returns c = added_own
