use Rattle.claim_core.proofs.Tiles.{run_stays}
use Rattle.claim_core.proofs.laws.runs_stay.Goals as goal

pub returns : goal.returns
returns c = run_stays
