use Rattle.std.proofs.Common.{refl}
use Rattle.kehldora_c.proofs.read_exports.kehldora_raw_at.Goals as goal

pub returns-in-Ok-clause-own : goal.returns-in-Ok-clause-own
returns-in-Ok-clause-own c x last = (refl, c.in-Ok.ensures.own x last)

pub returns-in-Err-clause-own : goal.returns-in-Err-clause-own
returns-in-Err-clause-own c x last = absurd (c.in-Err.ensures.own x last)
