use Rattle.std.proofs.Common.{arith}
use Rattle.grow_core.proofs.Logs.{log_goes_on}
use Rattle.grow_core.proofs.vector.Shared.look_at_size.Goals as goal

pub size_as-requires : goal.size_as-requires
size_as-requires g c = (omega arith, (c.requires.ours, c.refusals_are_notes.ensures.nothing _))

pub returns-clause-goes_on : goal.returns-clause-goes_on
returns-clause-goes_on g c = log_goes_on _ _ _ c.size_as.ensures.logs
