use Rattle.claim_core.specs.Seat.{floor_in}
use Rattle.claim_core.proofs.Badges.{has_seat, taken_view, taken_held}
use Rattle.claim_core.proofs.hand.Hand.into_seat.Goals as goal

pub into_seat-requires : goal.into_seat-requires
into_seat-requires c =
    let i = c.self.inside in
    let has = has_seat (floor_in i.floor.numbers) i.badge.table_id i.badge.views i.shares i.seen _ c.self.invariant c.self.view_is c.requires in
    (has.view, has.one)

pub returns-clause-seat : goal.returns-clause-seat
returns-clause-seat c =
    let i = c.self.inside in
    let has = has_seat (floor_in i.floor.numbers) i.badge.table_id i.badge.views i.shares i.seen _ c.self.invariant c.self.view_is c.requires in
    let s = c.into_seat.ensures in
    taken_view _ _ _ _ _ _ has c.into_seat.result s.0 s.2

pub returns-clause-held : goal.returns-clause-held
returns-clause-held c =
    let i = c.self.inside in
    let has = has_seat (floor_in i.floor.numbers) i.badge.table_id i.badge.views i.shares i.seen _ c.self.invariant c.self.view_is c.requires in
    let s = c.into_seat.ensures in
    taken_held _ _ _ _ _ _ has c.into_seat.result s.0 s.2 s.3
