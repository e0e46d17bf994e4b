use Rattle.claim_core.proofs.PlaceLaws.{opened_values_are_found, opened_values_are_not_mended}
use Rattle.claim_core.proofs.laws.opened_values_are_found.Goals as goal

pub returns-clause-found : goal.returns-clause-found
returns-clause-found c = opened_values_are_found

pub returns-clause-not_mended : goal.returns-clause-not_mended
returns-clause-not_mended c = opened_values_are_not_mended
