use Rattle.kehldora_c.proofs.Codes.{done_as_called}
use Rattle.kehldora_c.proofs.growth_exports.kehldora_raw_push.Goals as goal

pub returns-clause-pushed : goal.returns-clause-pushed
returns-clause-pushed c done = (done_as_called _ _ c.push.type_inv c.push.ensures.pushed).done done
