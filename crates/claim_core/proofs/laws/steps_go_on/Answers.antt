use Rattle.claim_core.proofs.Additions.{steps_go_on}
use Rattle.claim_core.proofs.laws.steps_go_on.Goals as goal

pub returns : goal.returns
returns c = steps_go_on
