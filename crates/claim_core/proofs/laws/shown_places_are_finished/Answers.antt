use Rattle.claim_core.proofs.PlaceLaws.{shown_places_are_finished}
use Rattle.claim_core.proofs.laws.shown_places_are_finished.Goals as goal

pub returns : goal.returns
returns c = shown_places_are_finished
