use Rattle.claim_core.proofs.Tiles.{run_apart}
use Rattle.claim_core.proofs.laws.runs_are_apart.Goals as goal

pub returns : goal.returns
returns c = run_apart
