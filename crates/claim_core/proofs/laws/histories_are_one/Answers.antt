use Rattle.claim_core.proofs.PlaceLaws.{histories_are_one}
use Rattle.claim_core.proofs.laws.histories_are_one.Goals as goal

pub returns : goal.returns
returns c = histories_are_one
