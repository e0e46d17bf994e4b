use Rattle.claim_core.proofs.RunLaws.{own_stay}
use Rattle.claim_core.proofs.laws.own_runs_stay.Goals as goal

pub returns : goal.returns
returns c = own_stay
