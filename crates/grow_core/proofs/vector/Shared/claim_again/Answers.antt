use Rattle.grow_core.proofs.Wins.{claimed_after, refusal_after}
use Rattle.grow_core.proofs.vector.Shared.claim_again.Goals as goal

pub returns-in-Ok-clause-logs : goal.returns-in-Ok-clause-logs
returns-in-Ok-clause-logs g c = claimed_after _ _ _ c.loop-try.invariant.6 _ c.in-Ok.ensures.logs

pub returns-in-Err-clause-logs_refusal : goal.returns-in-Err-clause-logs_refusal
returns-in-Err-clause-logs_refusal g c =
    refusal_after _ _ _ c.loop-try.invariant.6 c.args.n c.in-Err.refused c.in-Err.ensures.logs_refusal
