use Rattle.claim_core.proofs.OwnCounts.{added_places_add}
use Rattle.claim_core.proofs.laws.added_places_add_up.Goals as goal

pub returns : goal.returns
returns c = added_places_add
