use Rattle.claim_core.proofs.RunLaws.{added_owned}
use Rattle.claim_core.proofs.laws.added_runs_are_owned.Goals as goal

pub returns : goal.returns
returns c = added_owned
