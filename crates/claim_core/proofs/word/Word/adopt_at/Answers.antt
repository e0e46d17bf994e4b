use Rattle.claim_core.specs.Seat.{floor_in}
use Rattle.claim_core.proofs.Badges.{has_seat}
use Rattle.claim_core.proofs.Belongs.{is_here, same_table, hand_seat, tied_there, entry_there, stages_there}
use Rattle.claim_core.proofs.MaySteps.{may_adopt, adopt_here}
use Rattle.claim_core.proofs.GainsBack.{entered_kept, entered_ends}
use Rattle.claim_core.proofs.word.Word.adopt_at.Goals as goal

pub adopt-requires-clause-table : goal.adopt-requires-clause-table
adopt-requires-clause-table g c =
    let i = c.hand.inside in
    let has = has_seat (floor_in i.floor.numbers) i.badge.table_id i.badge.views i.shares i.seen _ c.hand.invariant c.hand.view_is (is_here c.args.hand.now c.self.invariant c.self.view_is c.requires.ours) in
    (c.self.invariant.desk_of, same_table has.view c.self.view_is c.requires.ours has.is)

pub adopt-requires-clause-permits : goal.adopt-requires-clause-permits
adopt-requires-clause-permits g c =
    let i = c.hand.inside in
    let has = has_seat (floor_in i.floor.numbers) i.badge.table_id i.badge.views i.shares i.seen _ c.hand.invariant c.hand.view_is (is_here c.args.hand.now c.self.invariant c.self.view_is c.requires.ours) in (
      has.view,
      has.one,
      adopt_here c.args.from _ c.requires.places
          (may_adopt _ _ _ _ _ _ (hand_seat has.view c.self.invariant c.self.view_is c.requires.ours has.is has.part) has.is _ _ c.requires.whole c.requires.unlaid),
    )

pub invariant_of-hand : goal.invariant_of-hand
invariant_of-hand g c =
    let i = c.hand.inside in
    let has = has_seat (floor_in i.floor.numbers) i.badge.table_id i.badge.views i.shares i.seen _ c.hand.invariant c.hand.view_is (is_here c.args.hand.now c.self.invariant c.self.view_is c.requires.ours) in
    let e = c.adopt.ensures.seat in
    entered_kept c.hand.invariant has e.2.2 e.2.3 e.2.4

pub returns-clause-entry : goal.returns-clause-entry
returns-clause-entry g c =
    let e = c.adopt.ensures.placed in
    (entry_there c.self.view_is e.0, e.1, e.2, e.3, e.4)

pub returns-clause-tied : goal.returns-clause-tied
returns-clause-tied g c = tied_there c.self.view_is c.adopt.ensures.tie

pub returns-clause-stages : goal.returns-clause-stages
returns-clause-stages g c =
    let e = c.adopt.ensures.seats in
    (stages_there c.args.from c.args.n _ c.self.invariant c.self.view_is e.2, e.3)

pub returns-clause-ends : goal.returns-clause-ends
returns-clause-ends g c =
    let i = c.hand.inside in
    let has = has_seat (floor_in i.floor.numbers) i.badge.table_id i.badge.views i.shares i.seen _ c.hand.invariant c.hand.view_is (is_here c.args.hand.now c.self.invariant c.self.view_is c.requires.ours) in
    let e = c.adopt.ensures.seat in
    entered_ends c.args.from c.requires.places has e.0 e.2.2 e.2.3 e.2.4
