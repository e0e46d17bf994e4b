use Rattle.claim_core.specs.Seat.{floor_in}
use Rattle.claim_core.proofs.GainsBack.{back_from, back_kept, back_gains_from}
use Rattle.claim_core.proofs.hand.Hand.take_back_visit.Goals as goal

pub invariant_of-self : goal.invariant_of-self
invariant_of-self g c =
    let i = c.self.inside in
    let back = back_from g.M.VisitPlay.gain c.args.visit.about.told c.args.visit.about.view c.args.visit.made c.back.new.badge.views c.back.ensures.view in
    back_kept (floor_in i.floor.numbers) i.badge.table_id i.badge.views i.shares i.seen _ c.self.invariant c.self.view_is _ _ _ back.0 c.requires.lent

pub returns : goal.returns
returns g c =
    let i = c.self.inside in
    let back = back_from g.M.VisitPlay.gain c.args.visit.about.told c.args.visit.about.view c.args.visit.made c.back.new.badge.views c.back.ensures.view in
    record {
      gained = λ hand is.
          back_gains_from (floor_in i.floor.numbers) i.badge.table_id i.badge.views i.shares i.seen _ c.self.invariant c.self.view_is _ _ _ back.0
          _ _ back.1 _ c.back.ensures.seat.0 hand is;
    }
