use Rattle.claim_core.proofs.RunLaws.{seen_stay}
use Rattle.claim_core.proofs.laws.seen_runs_stay.Goals as goal

pub returns : goal.returns
returns c = seen_stay
