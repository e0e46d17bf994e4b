use Rattle.std.proofs.Common.{arith}
use Rattle.grow_core.proofs.Logs.{adds_noted, past_noted, log_goes_on}
use Rattle.grow_core.proofs.vector.Shared.size_past.Goals as goal

pub size_as-requires : goal.size_as-requires
size_as-requires g c = (omega arith, (c.requires.ours, c.refusals_are_notes.ensures.range _ _))

pub returns-clause-past : goal.returns-clause-past
returns-clause-past g c = λ after. adds_noted _ _ _ _ (past_noted c.args.place c.size_as.result after) c.size_as.ensures.logs

pub returns-clause-goes_on : goal.returns-clause-goes_on
returns-clause-goes_on g c = log_goes_on _ _ _ c.size_as.ensures.logs
