use Rattle.claim_core.proofs.Additions.{prefixes_add_nothing}
use Rattle.claim_core.proofs.laws.prefixes_add_nothing.Goals as goal

pub returns : goal.returns
returns c = prefixes_add_nothing
