use Rattle.claim_core.proofs.RunLaws.{seen_places}
use Rattle.claim_core.proofs.laws.seen_runs_have_places.Goals as goal

pub returns : goal.returns
returns c = seen_places
