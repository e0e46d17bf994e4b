use Rattle.std.proofs.Common.{◌↔◌, ◌≤◌, subst, ◌<◌, ◌+◌, ◌-◌, ℕ, arith}
use Rattle.seg_core.specs.Segment.{HasPlace, Touches}
use Rattle.seg_core.proofs.Doubling.{begins_below}
use Rattle.seg_core.proofs.segments.segments_of.Goals as goal

pub returns-clause-touched : goal.returns-clause-touched
returns-clause-touched c k =
    subst (λ (f : ℕ). Touches f k c.args.from c.args.n ↔ (c.segments_of.result.0 ≤ k) × (k < c.segments_of.result.1)) c.default.ensures (c.segments_of.ensures.touched k)

pub returns-clause-bound : goal.returns-clause-bound
returns-clause-bound c =
    let has : HasPlace 1 c.segments_of.ensures.last.0 (c.args.from + c.args.n - 1) =
    subst (λ (f : ℕ). HasPlace f c.segments_of.ensures.last.0 (c.args.from + c.args.n - 1)) c.default.ensures c.segments_of.ensures.last.2 in
    omega (arith, begins_below 1 _ 32 _ (omega arith) (omega arith) has (omega (arith, c.requires.some, c.requires.places)), c.segments_of.ensures.last.1)
