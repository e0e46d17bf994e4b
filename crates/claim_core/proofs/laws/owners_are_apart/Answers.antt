use Rattle.claim_core.proofs.RunLaws.{owners_apart}
use Rattle.claim_core.proofs.laws.owners_are_apart.Goals as goal

pub returns : goal.returns
returns c = owners_apart
