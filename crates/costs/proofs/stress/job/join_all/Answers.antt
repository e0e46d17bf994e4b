use Rattle.std.proofs.Common.{◌∙◌}
use Rattle.std.proofs.lemmas.List.Elements.{All-rest}
use Rattle.grow_core.specs.Vector.{IsHandOf}
use Rattle.costs.proofs.stress.job.join_all.Goals as goal

pub loop-other-preserved : goal.loop-other-preserved
loop-other-preserved c = (
  c.join.ensures.of ∙ c.loop-other.invariant.0,
  All-rest (IsHandOf c.args.vector.now) _ _ _ c.in-Some.ensures.steps.0 c.loop-other.invariant.1,
)
