use Rattle.claim_core.proofs.Additions.{steps_stay}
use Rattle.claim_core.proofs.laws.steps_stay.Goals as goal

pub returns : goal.returns
returns c = steps_stay
