use Rattle.claim_core.specs.Seat.{floor_in}
use Rattle.claim_core.proofs.Badges.{has_seat, kept_blank}
use Rattle.claim_core.proofs.Belongs.{is_here, same_table, hand_seat, tied_here}
use Rattle.claim_core.proofs.GainsBack.{lent_by}
use Rattle.claim_core.proofs.hand.Hand.lend_run.Goals as goal

pub offer_run-requires-clause-table : goal.offer_run-requires-clause-table
offer_run-requires-clause-table g c =
    let i = c.self.inside in
    let has = has_seat (floor_in i.floor.numbers) i.badge.table_id i.badge.views i.shares i.seen _ c.self.invariant c.self.view_is (is_here c.args.self.now c.word.invariant c.word.view_is c.requires.ours) in
    (c.word.invariant.desk_of, same_table has.view c.word.view_is c.requires.ours has.is)

pub offer_run-requires-clause-tie : goal.offer_run-requires-clause-tie
offer_run-requires-clause-tie g c = tied_here c.word.view_is c.requires.tied

pub offer_run-requires-clause-permits : goal.offer_run-requires-clause-permits
offer_run-requires-clause-permits g c =
    let i = c.self.inside in
    let has = has_seat (floor_in i.floor.numbers) i.badge.table_id i.badge.views i.shares i.seen _ c.self.invariant c.self.view_is (is_here c.args.self.now c.word.invariant c.word.view_is c.requires.ours) in
    (has.view, has.one, c.requires.may _ _ _ _ has.view (hand_seat has.view c.word.invariant c.word.view_is c.requires.ours has.is has.part) has.numbers.consistent has.is)

pub invariant_of-self : goal.invariant_of-self
invariant_of-self g c = kept_blank c.self.invariant c.offer_run.ensures.blank

pub returns-clause-lent : goal.returns-clause-lent
returns-clause-lent g c =
    let i = c.self.inside in
    let has = has_seat (floor_in i.floor.numbers) i.badge.table_id i.badge.views i.shares i.seen _ c.self.invariant c.self.view_is (is_here c.args.self.now c.word.invariant c.word.view_is c.requires.ours) in
    let told = c.offer_run.ensures.seat in
    lent_by (floor_in i.floor.numbers) i.badge.table_id i.badge.views i.shares i.seen _ c.self.invariant c.self.view_is has _ _ _ _
    c.offer_run.ensures.blank told.0 told.2
