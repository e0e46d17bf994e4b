use Rattle.claim_core.proofs.RunLaws.{joined_owners_apart}
use Rattle.claim_core.proofs.laws.joined_owners_are_apart.Goals as goal

pub returns : goal.returns
returns c = joined_owners_apart
