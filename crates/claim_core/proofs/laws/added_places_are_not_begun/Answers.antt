use Rattle.claim_core.proofs.OwnPlaces.{added_not_begun}
use Rattle.claim_core.proofs.laws.added_places_are_not_begun.Goals as goal

pub returns : goal.returns
returns c = added_not_begun
