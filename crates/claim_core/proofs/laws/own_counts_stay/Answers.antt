use Rattle.claim_core.proofs.OwnCounts.{own_counts_stay}
use Rattle.claim_core.proofs.laws.own_counts_stay.Goals as goal

pub returns : goal.returns
returns c = own_counts_stay
