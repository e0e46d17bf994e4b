use Rattle.claim_core.specs.Seat.{floor_in}
use Rattle.claim_core.proofs.GainsBack.{back_unseen, still_kept, back_same}
use Rattle.claim_core.proofs.hand.Hand.take_back_unseen.Goals as goal

pub invariant_of-self : goal.invariant_of-self
invariant_of-self c =
    let i = c.self.inside in
    let back = back_unseen c.args.visit.about.told c.args.visit.about.view c.args.visit.made c.back.new.badge.views c.back.ensures.view in
    still_kept (floor_in i.floor.numbers) i.badge.table_id i.badge.views i.shares i.seen _ c.self.invariant c.self.view_is _ _ _ back c.requires.lent

pub returns : goal.returns
returns c =
    let i = c.self.inside in
    let back = back_unseen c.args.visit.about.told c.args.visit.about.view c.args.visit.made c.back.new.badge.views c.back.ensures.view in
    record {
      same = λ hand is.
          back_same (floor_in i.floor.numbers) i.badge.table_id i.badge.views i.shares i.seen _ c.self.invariant c.self.view_is _ _ _ back
          _ c.back.ensures.seat.0 hand is;
    }
