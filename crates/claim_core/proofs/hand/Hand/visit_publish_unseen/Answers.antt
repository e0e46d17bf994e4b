use Rattle.claim_core.specs.Seat.{floor_in}
use Rattle.claim_core.proofs.Badges.{has_seat, kept_blank}
use Rattle.claim_core.proofs.Belongs.{is_here, same_table, hand_seat, entry_here, table_here}
use Rattle.claim_core.proofs.MaySteps.{may_publish_unseen}
use Rattle.claim_core.proofs.GainsBack.{lent_by}
use Rattle.claim_core.proofs.hand.Hand.visit_publish_unseen.Goals as goal

pub publish-requires-clause-table : goal.publish-requires-clause-table
publish-requires-clause-table g c =
    let i = c.self.inside in
    let has = has_seat (floor_in i.floor.numbers) i.badge.table_id i.badge.views i.shares i.seen _ c.self.invariant c.self.view_is (is_here c.args.self.now c.word.invariant c.word.view_is c.requires.ours) in
    (c.word.invariant.desk_of, same_table has.view c.word.view_is c.requires.ours has.is, table_here c.word.view_is c.requires.block.0)

pub publish-requires-clause-tie : goal.publish-requires-clause-tie
publish-requires-clause-tie g c = entry_here c.word.view_is c.requires.tied

pub publish-requires-clause-permits : goal.publish-requires-clause-permits
publish-requires-clause-permits g c =
    let i = c.self.inside in
    let has = has_seat (floor_in i.floor.numbers) i.badge.table_id i.badge.views i.shares i.seen _ c.self.invariant c.self.view_is (is_here c.args.self.now c.word.invariant c.word.view_is c.requires.ours) in (
      has.view,
      _,
      has.one,
      c.requires.block.1.1,
      may_publish_unseen _ _ _ _ _ _ (hand_seat has.view c.word.invariant c.word.view_is c.requires.ours has.is has.part) has.is _ _ _ 0 _ _,
    )

pub invariant_of-self : goal.invariant_of-self
invariant_of-self g c = kept_blank c.self.invariant c.publish.ensures.blank.0

pub returns-clause-lent : goal.returns-clause-lent
returns-clause-lent g c =
    let i = c.self.inside in
    let has = has_seat (floor_in i.floor.numbers) i.badge.table_id i.badge.views i.shares i.seen _ c.self.invariant c.self.view_is (is_here c.args.self.now c.word.invariant c.word.view_is c.requires.ours) in
    let told = c.publish.ensures.seat in
    lent_by (floor_in i.floor.numbers) i.badge.table_id i.badge.views i.shares i.seen _ c.self.invariant c.self.view_is has _ _ _ _
    c.publish.ensures.blank.0 told.0 told.2
