use Rattle.claim_core.specs.Seat.{floor_in}
use Rattle.claim_core.proofs.Badges.{has_seat, kept_blank}
use Rattle.claim_core.proofs.Belongs.{is_here, same_table, hand_seat, entry_here}
use Rattle.claim_core.proofs.MaySteps.{may_find, find_here}
use Rattle.claim_core.proofs.GainsBack.{lent_by}
use Rattle.claim_core.proofs.hand.Hand.visit_look.Goals as goal

pub visit-requires-clause-table : goal.visit-requires-clause-table
visit-requires-clause-table g c =
    let i = c.self.inside in
    let has = has_seat (floor_in i.floor.numbers) i.badge.table_id i.badge.views i.shares i.seen _ c.self.invariant c.self.view_is (is_here c.args.self.now c.word.invariant c.word.view_is c.requires.ours) in
    (c.word.invariant.desk_of, same_table has.view c.word.view_is c.requires.ours has.is)

pub visit-requires-clause-tie : goal.visit-requires-clause-tie
visit-requires-clause-tie g c = entry_here c.word.view_is c.requires.tied

pub visit-requires-clause-permits : goal.visit-requires-clause-permits
visit-requires-clause-permits g c =
    let i = c.self.inside in
    let has = has_seat (floor_in i.floor.numbers) i.badge.table_id i.badge.views i.shares i.seen _ c.self.invariant c.self.view_is (is_here c.args.self.now c.word.invariant c.word.view_is c.requires.ours) in
    let there = c.requires.there in
    let seen = c.requires.seen in (
      has.view,
      has.one,
      find_here c.requires.places.0 c.requires.places.1
          (may_find _ _ _ _ _ _ (hand_seat has.view c.word.invariant c.word.view_is c.requires.ours has.is has.part) has.is _ _ _ _ there.0 there.1 seen),
    )

pub invariant_of-self : goal.invariant_of-self
invariant_of-self g c = kept_blank c.self.invariant c.visit.ensures.blank

pub returns-clause-lent : goal.returns-clause-lent
returns-clause-lent g c =
    let i = c.self.inside in
    let has = has_seat (floor_in i.floor.numbers) i.badge.table_id i.badge.views i.shares i.seen _ c.self.invariant c.self.view_is (is_here c.args.self.now c.word.invariant c.word.view_is c.requires.ours) in
    let told = c.visit.ensures.seat in
    lent_by (floor_in i.floor.numbers) i.badge.table_id i.badge.views i.shares i.seen _ c.self.invariant c.self.view_is has _ _ _ _
    c.visit.ensures.blank told.0 told.2
