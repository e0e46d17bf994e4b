use Rattle.claim_core.proofs.RunLaws.{seen_were_there}
use Rattle.claim_core.proofs.laws.seen_runs_were_there.Goals as goal

pub returns : goal.returns
returns c = seen_were_there
