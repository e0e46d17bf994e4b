use Rattle.std.proofs.Common.{◌+◌, refl}
use Rattle.span_core.proofs.Ranges.{both-give, both-refused}
use Rattle.span_core.proofs.workers.GatedWorkersForkJoinVecRefusal.join_halves.Goals as goal

pub returns-clause-answer : goal.returns-clause-answer
returns-clause-answer g c =
    both-give (λ v. v.items) (g.W.Gated.gives c.args.self.now.work.now) c.args.first c.args.low (c.args.first + c.args.low) c.args.high c.args.lower c.args.upper c.join_results.result refl c.requires.lower.0 c.requires.upper.0 c.join_results.ensures.answers

pub returns-clause-refused : goal.returns-clause-refused
returns-clause-refused g c =
    both-refused (λ v. v.items) (g.W.Gated.gives c.args.self.now.work.now) (g.W.Gated.refuses c.args.self.now.work.now) (g.G.Gate.may_refuse c.args.self.now.gate.now) c.args.first c.args.low (c.args.first + c.args.low) c.args.high c.args.lower c.args.upper c.join_results.result refl c.requires.lower.0 c.requires.lower.1 c.requires.upper.1 c.join_results.ensures.refused
