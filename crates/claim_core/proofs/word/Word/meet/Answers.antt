use Rattle.std.proofs.Common.{◌∙◌, ap, sym}
use Rattle.claim_core.specs.Hand.{HandView}
use Rattle.claim_core.proofs.Belongs.{is_here, belongs, pairs, held_shown, held_other}
use Rattle.claim_core.proofs.HandSteps.{meets_on}
use Rattle.claim_core.proofs.word.Word.meet.Goals as goal

pub take_seat-seat-requires : goal.take_seat-seat-requires
take_seat-seat-requires g c = is_here c.args.a.now c.self.invariant c.self.view_is c.requires.ours

pub take_seat-part-requires : goal.take_seat-part-requires
take_seat-part-requires g c = is_here c.args.b.now c.self.invariant c.self.view_is c.requires.also_ours

pub show-size-requires-clause-pair : goal.show-size-requires-clause-pair
show-size-requires-clause-pair g c =
    let t = c.take_seat-seat.ensures in
    let u = c.take_seat-part.ensures in
    pairs (belongs t.held c.self.invariant t.seat c.self.view_is c.requires.ours)
    (belongs u.held c.self.invariant u.seat c.self.view_is c.requires.also_ours) u.held.no_slot

pub put_seat-requires : goal.put_seat-requires
put_seat-requires g c =
    let t = c.take_seat-seat.ensures in
    let u = c.take_seat-part.ensures in
    let b = belongs t.held c.self.invariant t.seat c.self.view_is c.requires.ours in
    let d = belongs u.held c.self.invariant u.seat c.self.view_is c.requires.also_ours in
    held_shown c.show-size.ensures d.part t.held.no_slot b.part _ (ap (λ (h : HandView). h.shares) t.lent ∙ t.held.shares)

pub put_seat-requires-2 : goal.put_seat-requires-2
put_seat-requires-2 g c =
    let t = c.take_seat-seat.ensures in
    let u = c.take_seat-part.ensures in
    let b = belongs t.held c.self.invariant t.seat c.self.view_is c.requires.ours in
    let d = belongs u.held c.self.invariant u.seat c.self.view_is c.requires.also_ours in
    held_other c.show-size.ensures b.part d.part _ (ap (λ (h : HandView). h.shares) u.lent ∙ u.held.shares)

pub returns-clause-own : goal.returns-clause-own
returns-clause-own g c =
    let t = c.take_seat-seat.ensures in
    let u = c.take_seat-part.ensures in
    (meets_on t.seat u.seat t.lent u.lent c.put_seat.ensures c.put_seat-2.ensures (c.requires.ours ∙ sym c.requires.also_ours) c.show-size.ensures).own

pub returns-clause-also_own : goal.returns-clause-also_own
returns-clause-also_own g c =
    let t = c.take_seat-seat.ensures in
    let u = c.take_seat-part.ensures in
    (meets_on t.seat u.seat t.lent u.lent c.put_seat.ensures c.put_seat-2.ensures (c.requires.ours ∙ sym c.requires.also_ours) c.show-size.ensures).also_own

pub returns-clause-begins : goal.returns-clause-begins
returns-clause-begins g c =
    let t = c.take_seat-seat.ensures in
    let u = c.take_seat-part.ensures in
    (meets_on t.seat u.seat t.lent u.lent c.put_seat.ensures c.put_seat-2.ensures (c.requires.ours ∙ sym c.requires.also_ours) c.show-size.ensures).begins

pub returns-clause-also_begins : goal.returns-clause-also_begins
returns-clause-also_begins g c =
    let t = c.take_seat-seat.ensures in
    let u = c.take_seat-part.ensures in
    (meets_on t.seat u.seat t.lent u.lent c.put_seat.ensures c.put_seat-2.ensures (c.requires.ours ∙ sym c.requires.also_ours) c.show-size.ensures).also_begins

pub returns-clause-same : goal.returns-clause-same
returns-clause-same g c =
    let t = c.take_seat-seat.ensures in
    let u = c.take_seat-part.ensures in
    (meets_on t.seat u.seat t.lent u.lent c.put_seat.ensures c.put_seat-2.ensures (c.requires.ours ∙ sym c.requires.also_ours) c.show-size.ensures).same

pub returns-clause-begins_log : goal.returns-clause-begins_log
returns-clause-begins_log g c =
    let t = c.take_seat-seat.ensures in
    let u = c.take_seat-part.ensures in
    (meets_on t.seat u.seat t.lent u.lent c.put_seat.ensures c.put_seat-2.ensures (c.requires.ours ∙ sym c.requires.also_ours) c.show-size.ensures).begins_log

pub returns-clause-also_begins_log : goal.returns-clause-also_begins_log
returns-clause-also_begins_log g c =
    let t = c.take_seat-seat.ensures in
    let u = c.take_seat-part.ensures in
    (meets_on t.seat u.seat t.lent u.lent c.put_seat.ensures c.put_seat-2.ensures (c.requires.ours ∙ sym c.requires.also_ours) c.show-size.ensures).also_begins_log

pub returns-clause-same_log : goal.returns-clause-same_log
returns-clause-same_log g c =
    let t = c.take_seat-seat.ensures in
    let u = c.take_seat-part.ensures in
    (meets_on t.seat u.seat t.lent u.lent c.put_seat.ensures c.put_seat-2.ensures (c.requires.ours ∙ sym c.requires.also_ours) c.show-size.ensures).same_log

pub returns-clause-cells : goal.returns-clause-cells
returns-clause-cells g c =
    let t = c.take_seat-seat.ensures in
    let u = c.take_seat-part.ensures in
    (meets_on t.seat u.seat t.lent u.lent c.put_seat.ensures c.put_seat-2.ensures (c.requires.ours ∙ sym c.requires.also_ours) c.show-size.ensures).cells

pub returns-clause-also_cells : goal.returns-clause-also_cells
returns-clause-also_cells g c =
    let t = c.take_seat-seat.ensures in
    let u = c.take_seat-part.ensures in
    (meets_on t.seat u.seat t.lent u.lent c.put_seat.ensures c.put_seat-2.ensures (c.requires.ours ∙ sym c.requires.also_ours) c.show-size.ensures).also_cells

pub returns-clause-apart : goal.returns-clause-apart
returns-clause-apart g c =
    let t = c.take_seat-seat.ensures in
    let u = c.take_seat-part.ensures in
    (meets_on t.seat u.seat t.lent u.lent c.put_seat.ensures c.put_seat-2.ensures (c.requires.ours ∙ sym c.requires.also_ours) c.show-size.ensures).apart
