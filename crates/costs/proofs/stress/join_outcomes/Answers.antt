use Rattle.std.proofs.Common.{◌∙◌, IfOk}
use Rattle.std.proofs.lemmas.List.Elements.{All-rest}
use Rattle.grow_core.specs.Vector.{IsHandOf}
use Rattle.costs.proofs.stress.join_outcomes.Goals as goal

pub loop-outcome-preserved : goal.loop-outcome-preserved
loop-outcome-preserved c = (
  c.join.ensures.of ∙ c.loop-outcome.invariant.0,
  All-rest (λ o. IfOk o (λ o. IsHandOf c.args.vector.now o.hand)) _ _ _ c.in-Some.ensures.steps.0 c.loop-outcome.invariant.1,
)
