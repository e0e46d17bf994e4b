use Rattle.grow_core.proofs.Wins.{reached_after, refusals_up_to_after}
use Rattle.grow_core.proofs.vector.Shared.claim_up_to.Goals as goal

pub returns-clause-logs : goal.returns-clause-logs
returns-clause-logs g c = reached_after _ _ _ c.size_up_to-from.ensures.goes_on c.args.size c.raise.result c.raise.ensures.logs

pub returns-clause-logs_refusal : goal.returns-clause-logs_refusal
returns-clause-logs_refusal g c =
    refusals_up_to_after _ _ _ c.size_up_to-from.ensures.goes_on c.args.size c.raise.result c.raise.ensures.logs_refusal
