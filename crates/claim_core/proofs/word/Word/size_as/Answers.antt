use Rattle.std.proofs.Common.{ℕ, ap, sym, subst}
use Rattle.claim_core.specs.Hand.{HandView}
use Rattle.claim_core.specs.History.{IsNote}
use Rattle.claim_core.proofs.Kept.{loads_as}
use Rattle.claim_core.proofs.Belongs.{is_here, belongs, held_on}
use Rattle.claim_core.proofs.WholeHand.{finds_seen}
use Rattle.claim_core.proofs.HandSteps.{looks_on}
use Rattle.claim_core.proofs.word.Word.size_as.Goals as goal

pub take_seat-seat-requires : goal.take_seat-seat-requires
take_seat-seat-requires g c = is_here c.args.hand.now c.self.invariant c.self.view_is c.requires.ours

pub load-found-requires : goal.load-found-requires
load-found-requires g c =
    let t = c.take_seat-seat.ensures in
    let b = belongs t.held c.self.invariant t.seat c.self.view_is c.requires.ours in
    (b.same, b.words, loads_as _ _ _ _ b.limit b.base b.filled b.part _ (subst (λ (limit : ℕ). IsNote limit g.N.Notes.note) b.room c.requires.note))

pub put_seat-requires : goal.put_seat-requires
put_seat-requires g c =
    let t = c.take_seat-seat.ensures in
    let looks = c.load-found.ensures.2.0 in
    held_on c.load-found.new.seat c.take_seat-seat.new.self.shares c.load-found.result t.held c.load-found.ensures.2.1 looks.same.shares (ap (λ (h : HandView). h.shares) t.lent)
    (sym looks.size) looks.consistent

pub returns-clause-seen : goal.returns-clause-seen
returns-clause-seen g c =
    let t = c.take_seat-seat.ensures in
    (looks_on c.take_seat-seat.result c.load-found.new.seat t.seat t.lent c.put_seat.ensures c.load-found.ensures.0 c.load-found.ensures.2.0).sees

pub returns-clause-grows : goal.returns-clause-grows
returns-clause-grows g c =
    let t = c.take_seat-seat.ensures in
    (looks_on c.take_seat-seat.result c.load-found.new.seat t.seat t.lent c.put_seat.ensures c.load-found.ensures.0 c.load-found.ensures.2.0).grows

pub returns-clause-logs : goal.returns-clause-logs
returns-clause-logs g c =
    let t = c.take_seat-seat.ensures in
    (looks_on c.take_seat-seat.result c.load-found.new.seat t.seat t.lent c.put_seat.ensures c.load-found.ensures.0 c.load-found.ensures.2.0).logs

pub returns-clause-cells : goal.returns-clause-cells
returns-clause-cells g c =
    let t = c.take_seat-seat.ensures in
    (looks_on c.take_seat-seat.result c.load-found.new.seat t.seat t.lent c.put_seat.ensures c.load-found.ensures.0 c.load-found.ensures.2.0).cells

pub returns-clause-whole : goal.returns-clause-whole
returns-clause-whole g c =
    let t = c.take_seat-seat.ensures in
    finds_seen t.held t.seat c.load-found.ensures.2.0
