use Rattle.claim_core.proofs.OwnFacts.{own_is_fact}
use Rattle.claim_core.proofs.laws.own_runs_are_facts.Goals as goal

pub returns : goal.returns
returns c = own_is_fact
