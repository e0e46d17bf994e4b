use Rattle.std.proofs.Common.{ap, subst}
use Rattle.claim_core.specs.Hand.{seen_size}
use Rattle.grow_core.specs.Growth.{WonPlace}
use Rattle.grow_core.proofs.Later.{won_place_after}
use Rattle.grow_core.specs.Logs.{AllFilled}
use Rattle.grow_core.proofs.Wins.{win_after, refusal_after}
use Rattle.grow_core.proofs.vector.Shared.push_back.Goals as goal

pub returns-in-Ok-clause-won : goal.returns-in-Ok-clause-won
returns-in-Ok-clause-won g c =
    let kept = c.loop-try.invariant in
    won_place_after _ _ _ _ kept.2 (λ whole. ap seen_size (kept.3 whole)) _ _
    (subst (λ v. WonPlace c.args.self.now v c.loop-try.hand c.try_push_near.new.hand c.in-Ok.placed) kept.5 c.in-Ok.ensures.won)

pub returns-in-Ok-clause-logs : goal.returns-in-Ok-clause-logs
returns-in-Ok-clause-logs g c = win_after _ _ _ c.loop-try.invariant.6 _ AllFilled _ c.in-Ok.ensures.logs

pub returns-in-Err-clause-logs_refusal : goal.returns-in-Err-clause-logs_refusal
returns-in-Err-clause-logs_refusal g c =
    refusal_after _ _ _ c.loop-try.invariant.6 1 c.in-Err.refused c.in-Err.ensures.logs_refusal
