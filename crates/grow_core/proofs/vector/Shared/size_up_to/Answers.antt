use Rattle.std.proofs.Common.{arith}
use Rattle.grow_core.proofs.Logs.{adds_noted, enough_noted, past_limit_noted, log_goes_on}
use Rattle.grow_core.proofs.vector.Shared.size_up_to.Goals as goal

pub size_as-requires : goal.size_as-requires
size_as-requires g c = (omega arith, (c.requires.ours, c.refusals_are_notes.ensures.reach _ _))

pub returns-clause-enough : goal.returns-clause-enough
returns-clause-enough g c = λ had. adds_noted _ _ _ _ (enough_noted c.args.self.now.word.limit c.args.to c.size_as.result had) c.size_as.ensures.logs

pub returns-clause-full : goal.returns-clause-full
returns-clause-full g c =
    λ more past. adds_noted _ _ _ _ (past_limit_noted c.args.self.now.word.limit c.args.to c.size_as.result more past) c.size_as.ensures.logs

pub returns-clause-goes_on : goal.returns-clause-goes_on
returns-clause-goes_on g c = log_goes_on _ _ _ c.size_as.ensures.logs
