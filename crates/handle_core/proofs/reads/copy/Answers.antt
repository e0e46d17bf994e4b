use Rattle.std.proofs.Common.{◌∙◌}
use Rattle.handle_core.proofs.reads.copy.Goals as goal

pub returns-in-Ok-clause-own : goal.returns-in-Ok-clause-own
returns-in-Ok-clause-own g c x long last = c.copy_out.ensures ∙ c.in-Ok.ensures.own x last

pub returns-in-Err-clause-own : goal.returns-in-Err-clause-own
returns-in-Err-clause-own g c x long last = c.in-Err.ensures.own x last
