use Rattle.claim_core.proofs.OwnCounts.{joined_places_add}
use Rattle.claim_core.proofs.laws.joined_places_add_up.Goals as goal

pub returns : goal.returns
returns c = joined_places_add
