use Rattle.claim_core.proofs.PlaceLaws.{first_stages_go_in_order}
use Rattle.claim_core.proofs.laws.first_stages_go_in_order.Goals as goal

pub returns : goal.returns
returns c = first_stages_go_in_order
