use Rattle.claim_core.proofs.Badges.{kept_seat, put_view}
use Rattle.claim_core.proofs.hand.Hand.around.Goals as goal

pub invariant_of-result : goal.invariant_of-result
invariant_of-result c = kept_seat c.requires c.into_badge.ensures.2

pub returns : goal.returns
returns c = put_view _ _ _ _ _ c.args.seat c.into_badge.ensures.0 c.into_badge.ensures.2
