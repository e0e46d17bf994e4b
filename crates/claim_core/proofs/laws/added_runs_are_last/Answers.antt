use Rattle.claim_core.proofs.RunLaws.{added_last}
use Rattle.claim_core.proofs.laws.added_runs_are_last.Goals as goal

pub returns : goal.returns
returns c = added_last
