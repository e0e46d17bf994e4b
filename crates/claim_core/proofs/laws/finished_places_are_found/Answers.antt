use Rattle.claim_core.proofs.PlaceLaws.{finished_places_are_found}
use Rattle.claim_core.proofs.laws.finished_places_are_found.Goals as goal

pub returns : goal.returns
returns c = finished_places_are_found
