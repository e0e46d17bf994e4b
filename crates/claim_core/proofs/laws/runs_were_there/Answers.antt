use Rattle.claim_core.proofs.Tiles.{run_was_there}
use Rattle.claim_core.proofs.laws.runs_were_there.Goals as goal

pub returns : goal.returns
returns c = run_was_there
