use Rattle.claim_core.proofs.OwnPlaces.{joined_own}
use Rattle.claim_core.proofs.laws.joined_hands_own_runs.Goals as goal

pub returns : goal.returns
returns c = joined_own
