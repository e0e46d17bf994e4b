use Rattle.std.proofs.Common.{arith}
use Rattle.grow_core.proofs.KnownPlaces.{grown_known, grown_of, grown_values}
use Rattle.grow_core.proofs.vector.Shared.grown.Goals as goal

pub invariant_of-result : goal.invariant_of-result
invariant_of-result g c =
    let all = c.requires.filled in grown_known c.args.self.now c.args.run.from all.0 c.args.filled all.2 c.args.run.n all.1 (omega (arith, c.requires.within, c.laws.ensures.bounds))

pub returns-clause-of : goal.returns-clause-of
returns-clause-of g c = let all = c.requires.filled in grown_of c.args.self.now c.args.run.from all.0 c.args.filled all.2

pub returns-clause-values : goal.returns-clause-values
returns-clause-values g c values is = grown_values c.args.self.now c.args.run.from values c.args.filled is
