use Rattle.std.proofs.Common.{subst, ℕ, arith}
use Rattle.seg_core.specs.Segment.{HasPlace}
use Rattle.seg_core.proofs.Doubling.{begins_below}
use Rattle.seg_core.proofs.segments.locate.Goals as goal

pub returns-clause-bound : goal.returns-clause-bound
returns-clause-bound c =
    let has : HasPlace 1 c.locate.result.0 c.args.place = subst (λ (f : ℕ). HasPlace f c.locate.result.0 c.args.place) c.default.ensures c.locate.ensures.segment in
    omega (arith, begins_below 1 _ 32 _ (omega arith) (omega arith) has (omega (arith, c.requires)))
