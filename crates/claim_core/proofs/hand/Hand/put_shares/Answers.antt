use Rattle.claim_core.specs.Seat.{floor_in}
use Rattle.claim_core.proofs.Badges.{kept_seat, puts}
use Rattle.claim_core.proofs.hand.Hand.put_shares.Goals as goal

pub invariant_of-self : goal.invariant_of-self
invariant_of-self c = kept_seat c.requires c.into_badge.ensures.2

pub returns : goal.returns
returns c =
    let i = c.self.inside in
    puts (floor_in i.floor.numbers) i.badge.table_id i.badge.views i.shares i.seen _ c.self.invariant c.self.view_is
    _ _ _ _ c.args.seat c.into_badge.ensures.0 c.into_badge.ensures.2
