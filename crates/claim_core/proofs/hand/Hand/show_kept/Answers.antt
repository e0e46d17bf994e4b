use Rattle.claim_core.specs.Seat.{floor_in}
use Rattle.claim_core.proofs.Badges.{sound}
use Rattle.claim_core.proofs.hand.Hand.show_kept.Goals as goal

pub returns : goal.returns
returns c =
    let i = c.self.inside in
    sound (floor_in i.floor.numbers) i.badge.table_id i.badge.views i.shares i.seen _ c.self.invariant c.self.view_is
