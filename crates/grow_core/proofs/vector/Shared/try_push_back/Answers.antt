use Rattle.std.proofs.Common.{◌∙◌}
use Rattle.grow_core.proofs.Later.{more_of_size, won_places_after}
use Rattle.grow_core.proofs.Wins.{pushes_after, refusals_after}
use Rattle.grow_core.proofs.vector.Shared.try_push_back.Goals as goal

-- the hand had seen no more before the look
pub returns-clause-won : goal.returns-clause-won
returns-clause-won g c =
    let size = c.look_at_size-from.ensures in let old = c.args.hand.now in let mid = c.look_at_size-from.new.hand in
    won_places_after c.args.self.now old mid c.push_at.new.hand (more_of_size old mid c.look_at_size-from.result size.seen)
    (λ whole. size.seen.ends ∙ size.whole whole) c.args.value c.push_at.result c.push_at.ensures.won

pub returns-clause-logs : goal.returns-clause-logs
returns-clause-logs g c = pushes_after _ _ _ c.look_at_size-from.ensures.goes_on c.push_at.result c.push_at.ensures.logs

pub returns-clause-logs_refusal : goal.returns-clause-logs_refusal
returns-clause-logs_refusal g c =
    refusals_after _ _ _ c.look_at_size-from.ensures.goes_on 1 c.push_at.result c.push_at.ensures.logs_refusal
