use Rattle.claim_core.proofs.Additions.{events_follow}
use Rattle.claim_core.proofs.laws.events_follow.Goals as goal

pub returns : goal.returns
returns c = events_follow
