use Rattle.std.proofs.Common.{ℕ, ◌+◌, ap, refl, ◌∙◌, sym, subst, arith}
use Rattle.claim_core.specs.Hand.{HandView}
use Rattle.claim_core.specs.History.{IsNote}
use Rattle.claim_core.proofs.Kept.{exchanges}
use Rattle.claim_core.proofs.Belongs.{is_here, belongs, held_on, missed, found_it, claims_end}
use Rattle.claim_core.proofs.WholeHand.{finds_seen}
use Rattle.claim_core.proofs.HandSteps.{looks_on, wins_on}
use Rattle.claim_core.proofs.word.Word.exchange_as.Goals as goal

pub take_seat-seat-requires : goal.take_seat-seat-requires
take_seat-seat-requires g c = is_here c.args.hand.now c.self.invariant c.self.view_is c.requires.ours

pub compare_exchange-found-requires : goal.compare_exchange-found-requires
compare_exchange-found-requires g c =
    let t = c.take_seat-seat.ensures in
    let b = belongs t.held c.self.invariant t.seat c.self.view_is c.requires.ours in
    (b.same, b.words, exchanges _ _ _ _ b.limit b.base b.filled b.part _ (subst (λ (limit : ℕ). IsNote limit g.N.Notes.note) b.room c.requires.note) _ _ (omega arith) (omega arith))

-- ---- Won

pub put_seat-requires : goal.put_seat-requires
put_seat-requires g c =
    let t = c.take_seat-seat.ensures in
    let e = c.compare_exchange-found.ensures in
    let claims = found_it _ _ _ _ _ refl c.if-found-from.true e.2.0 in
    held_on c.compare_exchange-found.new.seat c.take_seat-seat.new.self.shares (c.args.from + c.args.n) t.held e.2.1 claims.same.shares (ap (λ (h : HandView). h.shares) t.lent)
    (let ends = claims_end claims in let f = c.if-found-from.true in omega arith) claims.consistent

pub returns-then-found-from-clause-claimed : goal.returns-then-found-from-clause-claimed
returns-then-found-from-clause-claimed g c =
    let t = c.take_seat-seat.ensures in
    let e = c.compare_exchange-found.ensures in
    let won =
    wins_on c.take_seat-seat.result c.compare_exchange-found.new.seat t.seat t.lent c.put_seat.ensures e.0 c.requires.some_places c.if-found-from.true (found_it _ _ _ _ _ refl c.if-found-from.true e.2.0) in
    won.adds

pub returns-then-found-from-clause-not_below : goal.returns-then-found-from-clause-not_below
returns-then-found-from-clause-not_below g c =
    let t = c.take_seat-seat.ensures in
    let e = c.compare_exchange-found.ensures in
    let won =
    wins_on c.take_seat-seat.result c.compare_exchange-found.new.seat t.seat t.lent c.put_seat.ensures e.0 c.requires.some_places c.if-found-from.true (found_it _ _ _ _ _ refl c.if-found-from.true e.2.0) in
    won.grows

pub returns-then-found-from-clause-logs : goal.returns-then-found-from-clause-logs
returns-then-found-from-clause-logs g c =
    let t = c.take_seat-seat.ensures in
    let e = c.compare_exchange-found.ensures in
    let won =
    wins_on c.take_seat-seat.result c.compare_exchange-found.new.seat t.seat t.lent c.put_seat.ensures e.0 c.requires.some_places c.if-found-from.true (found_it _ _ _ _ _ refl c.if-found-from.true e.2.0) in
    record { index = won.index; last = won.last; adds = won.logs }

pub returns-then-found-from-clause-cells : goal.returns-then-found-from-clause-cells
returns-then-found-from-clause-cells g c =
    let t = c.take_seat-seat.ensures in
    let e = c.compare_exchange-found.ensures in
    let won =
    wins_on c.take_seat-seat.result c.compare_exchange-found.new.seat t.seat t.lent c.put_seat.ensures e.0 c.requires.some_places c.if-found-from.true (found_it _ _ _ _ _ refl c.if-found-from.true e.2.0) in
    won.cells

-- ---- Lost

pub put_seat-requires-else-found-from : goal.put_seat-requires-else-found-from
put_seat-requires-else-found-from g c =
    let t = c.take_seat-seat.ensures in
    let e = c.compare_exchange-found.ensures in
    let looks = missed _ _ _ _ _ refl c.if-found-from.false e.2.0 in
    held_on c.compare_exchange-found.new.seat c.take_seat-seat.new.self.shares c.compare_exchange-found.result t.held e.2.1 looks.same.shares (ap (λ (h : HandView). h.shares) t.lent)
    (sym looks.size) looks.consistent

pub returns-else-found-from-clause-seen : goal.returns-else-found-from-clause-seen
returns-else-found-from-clause-seen g c =
    let t = c.take_seat-seat.ensures in
    let e = c.compare_exchange-found.ensures in
    let lost = looks_on c.take_seat-seat.result c.compare_exchange-found.new.seat t.seat t.lent c.put_seat-else-found-from.ensures e.0 (missed _ _ _ _ _ refl c.if-found-from.false e.2.0) in
    lost.sees

pub returns-else-found-from-clause-logs_note : goal.returns-else-found-from-clause-logs_note
returns-else-found-from-clause-logs_note g c =
    let t = c.take_seat-seat.ensures in
    let e = c.compare_exchange-found.ensures in
    let lost = looks_on c.take_seat-seat.result c.compare_exchange-found.new.seat t.seat t.lent c.put_seat-else-found-from.ensures e.0 (missed _ _ _ _ _ refl c.if-found-from.false e.2.0) in
    lost.logs

pub returns-else-found-from-clause-cells : goal.returns-else-found-from-clause-cells
returns-else-found-from-clause-cells g c =
    let t = c.take_seat-seat.ensures in
    let e = c.compare_exchange-found.ensures in
    let lost = looks_on c.take_seat-seat.result c.compare_exchange-found.new.seat t.seat t.lent c.put_seat-else-found-from.ensures e.0 (missed _ _ _ _ _ refl c.if-found-from.false e.2.0) in
    lost.cells

pub returns-else-found-from-clause-moved : goal.returns-else-found-from-clause-moved
returns-else-found-from-clause-moved g c =
    let t = c.take_seat-seat.ensures in
    let e = c.compare_exchange-found.ensures in
    let lost = looks_on c.take_seat-seat.result c.compare_exchange-found.new.seat t.seat t.lent c.put_seat-else-found-from.ensures e.0 (missed _ _ _ _ _ refl c.if-found-from.false e.2.0) in
    let grows = lost.grows in let other = c.if-found-from.false in let below = c.requires.not_ahead in omega arith

pub returns-else-found-from-clause-whole : goal.returns-else-found-from-clause-whole
returns-else-found-from-clause-whole g c =
    λ whole from_is.
    let t = c.take_seat-seat.ensures in
    let found = finds_seen t.held t.seat (missed _ _ _ _ _ refl c.if-found-from.false c.compare_exchange-found.ensures.2.0) whole in
    absurd (c.if-found-from.false (found ∙ sym from_is))
