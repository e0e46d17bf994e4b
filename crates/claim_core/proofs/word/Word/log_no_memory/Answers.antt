use Rattle.std.proofs.Common.{ap, ◌∙◌}
use Rattle.claim_core.specs.Hand.{HandView, seen_size}
use Rattle.claim_core.proofs.Kept.{lacks}
use Rattle.claim_core.proofs.Belongs.{is_here, belongs, held_on}
use Rattle.claim_core.proofs.HandSteps.{remarks_on, stays_seen, nothing_more}
use Rattle.claim_core.proofs.word.Word.log_no_memory.Goals as goal

pub take_seat-seat-requires : goal.take_seat-seat-requires
take_seat-seat-requires g c = is_here c.args.hand.now c.self.invariant c.self.view_is c.requires.ours

pub load-requires : goal.load-requires
load-requires g c =
    let t = c.take_seat-seat.ensures in
    let b = belongs t.held c.self.invariant t.seat c.self.view_is c.requires.ours in
    (b.same, b.words, lacks _ _ _ _ b.limit b.base b.filled b.part)

pub put_back-requires : goal.put_back-requires
put_back-requires g c =
    let t = c.take_seat-seat.ensures in
    let remarks = c.load.ensures.2.0 in
    let seen = ap seen_size t.lent ∙ (nothing_more ∙ stays_seen c.load.new.seat t.held remarks) in
    held_on c.load.new.seat _ _ t.held c.load.ensures.2.1 remarks.same.shares (ap (λ (h : HandView). h.shares) t.lent) seen
    remarks.consistent

pub returns-clause-own : goal.returns-clause-own
returns-clause-own g c =
    let t = c.take_seat-seat.ensures in
    (remarks_on c.take_seat-seat.result c.load.new.seat t.seat t.lent c.put_back.ensures c.load.ensures.0 c.load.ensures.2.0).own

pub returns-clause-seen : goal.returns-clause-seen
returns-clause-seen g c =
    let t = c.take_seat-seat.ensures in
    (remarks_on c.take_seat-seat.result c.load.new.seat t.seat t.lent c.put_back.ensures c.load.ensures.0 c.load.ensures.2.0).seen

pub returns-clause-logs : goal.returns-clause-logs
returns-clause-logs g c =
    let t = c.take_seat-seat.ensures in
    (remarks_on c.take_seat-seat.result c.load.new.seat t.seat t.lent c.put_back.ensures c.load.ensures.0 c.load.ensures.2.0).logs

pub returns-clause-cells : goal.returns-clause-cells
returns-clause-cells g c =
    let t = c.take_seat-seat.ensures in
    (remarks_on c.take_seat-seat.result c.load.new.seat t.seat t.lent c.put_back.ensures c.load.ensures.0 c.load.ensures.2.0).cells
