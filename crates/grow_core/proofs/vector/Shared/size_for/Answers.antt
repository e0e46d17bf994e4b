use Rattle.std.proofs.Common.{arith}
use Rattle.grow_core.proofs.Logs.{adds_noted, empty_growth_noted, full_growth_noted, log_goes_on}
use Rattle.grow_core.proofs.vector.Shared.size_for.Goals as goal

pub size_as-requires : goal.size_as-requires
size_as-requires g c = (omega arith, (c.requires.ours, c.refusals_are_notes.ensures.growth _ _))

pub returns-clause-none : goal.returns-clause-none
returns-clause-none g c = λ zero_places. adds_noted _ _ _ _ (empty_growth_noted c.args.self.now.word.limit c.args.n c.size_as.result zero_places) c.size_as.ensures.logs

pub returns-clause-full : goal.returns-clause-full
returns-clause-full g c =
    λ some_places past. adds_noted _ _ _ _ (full_growth_noted c.args.self.now.word.limit c.args.n c.size_as.result some_places past) c.size_as.ensures.logs

pub returns-clause-goes_on : goal.returns-clause-goes_on
returns-clause-goes_on g c = log_goes_on _ _ _ c.size_as.ensures.logs
