use Rattle.claim_core.proofs.RunLaws.{seen_within}
use Rattle.claim_core.proofs.laws.seen_runs_are_within.Goals as goal

pub returns : goal.returns
returns c = seen_within
