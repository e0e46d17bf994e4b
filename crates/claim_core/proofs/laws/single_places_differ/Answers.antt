use Rattle.claim_core.proofs.RunLaws.{singles_differ}
use Rattle.claim_core.proofs.laws.single_places_differ.Goals as goal

pub returns : goal.returns
returns c = singles_differ
