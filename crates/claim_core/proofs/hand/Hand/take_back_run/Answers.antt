use Rattle.claim_core.specs.Seat.{floor_in}
use Rattle.claim_core.proofs.GainsBack.{back_along, along_kept, back_gains_along}
use Rattle.claim_core.proofs.hand.Hand.take_back_run.Goals as goal

pub invariant_of-self : goal.invariant_of-self
invariant_of-self g c =
    let i = c.self.inside in
    let back = back_along g.M.RunHandPlay.gains c.args.offer.about.told c.args.offer.about.view c.args.offer.made c.back.new.badge.views c.back.ensures.view in
    along_kept (floor_in i.floor.numbers) i.badge.table_id i.badge.views i.shares i.seen _ c.self.invariant c.self.view_is _ _ _ back.0 c.requires.lent

pub returns : goal.returns
returns g c =
    let i = c.self.inside in
    let back = back_along g.M.RunHandPlay.gains c.args.offer.about.told c.args.offer.about.view c.args.offer.made c.back.new.badge.views c.back.ensures.view in
    record {
      gained = λ hand is.
          back_gains_along (floor_in i.floor.numbers) i.badge.table_id i.badge.views i.shares i.seen _ c.self.invariant c.self.view_is _ _ _ back.0
          _ _ back.1 _ c.back.ensures.seat.0 hand is;
    }
