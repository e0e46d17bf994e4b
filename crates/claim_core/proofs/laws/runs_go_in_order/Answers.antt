use Rattle.claim_core.proofs.RunSteps.{begun_runs, begun_places}
use Rattle.claim_core.proofs.laws.runs_go_in_order.Goals as goal

pub returns-clause-fills : goal.returns-clause-fills
returns-clause-fills c = begun_runs

pub returns-clause-begins : goal.returns-clause-begins
returns-clause-begins c = begun_places
