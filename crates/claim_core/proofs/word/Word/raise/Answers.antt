use Rattle.std.proofs.Common.{ap, refl, sym, arith}
use Rattle.claim_core.specs.Hand.{HandView}
use Rattle.claim_core.proofs.Kept.{raises}
use Rattle.claim_core.proofs.Belongs.{is_here, belongs, held_on, grew, stayed, claims_end}
use Rattle.claim_core.proofs.WholeHand.{claims_seen, finds_seen}
use Rattle.claim_core.proofs.HandSteps.{looks_on, claims_on}
use Rattle.claim_core.proofs.word.Word.raise.Goals as goal

pub take_seat-seat-requires : goal.take_seat-seat-requires
take_seat-seat-requires g c = is_here c.args.hand.now c.self.invariant c.self.view_is c.requires.ours

pub fetch_max-found-requires : goal.fetch_max-found-requires
fetch_max-found-requires g c =
    let t = c.take_seat-seat.ensures in
    let b = belongs t.held c.self.invariant t.seat c.self.view_is c.requires.ours in
    (b.same, b.words, raises _ _ _ _ b.limit b.base b.filled b.part _ (omega arith))

-- ---- Grown

pub put_seat-requires : goal.put_seat-requires
put_seat-requires g c =
    let t = c.take_seat-seat.ensures in
    let e = c.fetch_max-found.ensures in
    let less = c.if-found-to.true in
    let claims = grew _ _ _ _ _ refl less e.2.0 in
    held_on c.fetch_max-found.new.seat c.take_seat-seat.new.self.shares c.args.to t.held e.2.1 claims.same.shares (ap (λ (h : HandView). h.shares) t.lent)
    (let ends = claims_end claims in omega arith) claims.consistent

pub returns-then-found-to-clause-claimed : goal.returns-then-found-to-clause-claimed
returns-then-found-to-clause-claimed g c =
    let t = c.take_seat-seat.ensures in
    let e = c.fetch_max-found.ensures in
    let less = c.if-found-to.true in
    let grown = claims_on c.take_seat-seat.result c.fetch_max-found.new.seat t.seat t.lent c.put_seat.ensures e.0 (omega arith) (grew _ _ _ _ _ refl less e.2.0) in
    grown.adds

pub returns-then-found-to-clause-not_below : goal.returns-then-found-to-clause-not_below
returns-then-found-to-clause-not_below g c =
    let t = c.take_seat-seat.ensures in
    let e = c.fetch_max-found.ensures in
    let less = c.if-found-to.true in
    let grown = claims_on c.take_seat-seat.result c.fetch_max-found.new.seat t.seat t.lent c.put_seat.ensures e.0 (omega arith) (grew _ _ _ _ _ refl less e.2.0) in
    grown.grows

pub returns-then-found-to-clause-logs : goal.returns-then-found-to-clause-logs
returns-then-found-to-clause-logs g c =
    let t = c.take_seat-seat.ensures in
    let e = c.fetch_max-found.ensures in
    let less = c.if-found-to.true in
    let grown = claims_on c.take_seat-seat.result c.fetch_max-found.new.seat t.seat t.lent c.put_seat.ensures e.0 (omega arith) (grew _ _ _ _ _ refl less e.2.0) in
    record { index = grown.index; last = grown.last; adds = grown.logs }

pub returns-then-found-to-clause-cells : goal.returns-then-found-to-clause-cells
returns-then-found-to-clause-cells g c =
    let t = c.take_seat-seat.ensures in
    let e = c.fetch_max-found.ensures in
    let less = c.if-found-to.true in
    let grown = claims_on c.take_seat-seat.result c.fetch_max-found.new.seat t.seat t.lent c.put_seat.ensures e.0 (omega arith) (grew _ _ _ _ _ refl less e.2.0) in
    grown.cells

pub returns-then-found-to-clause-whole : goal.returns-then-found-to-clause-whole
returns-then-found-to-clause-whole g c =
    let t = c.take_seat-seat.ensures in
    claims_seen t.held t.seat (grew _ _ _ _ _ refl c.if-found-to.true c.fetch_max-found.ensures.2.0)

-- ---- Large enough

pub put_seat-requires-else-found-to : goal.put_seat-requires-else-found-to
put_seat-requires-else-found-to g c =
    let t = c.take_seat-seat.ensures in
    let e = c.fetch_max-found.ensures in
    let looks = stayed _ _ _ _ _ refl c.if-found-to.false e.2.0 in
    held_on c.fetch_max-found.new.seat c.take_seat-seat.new.self.shares c.fetch_max-found.result t.held e.2.1 looks.same.shares (ap (λ (h : HandView). h.shares) t.lent)
    (sym looks.size) looks.consistent

pub returns-else-found-to-clause-seen : goal.returns-else-found-to-clause-seen
returns-else-found-to-clause-seen g c =
    let t = c.take_seat-seat.ensures in
    let e = c.fetch_max-found.ensures in
    let enough = looks_on c.take_seat-seat.result c.fetch_max-found.new.seat t.seat t.lent c.put_seat-else-found-to.ensures e.0 (stayed _ _ _ _ _ refl c.if-found-to.false e.2.0) in
    enough.sees

pub returns-else-found-to-clause-logs_enough : goal.returns-else-found-to-clause-logs_enough
returns-else-found-to-clause-logs_enough g c =
    let t = c.take_seat-seat.ensures in
    let e = c.fetch_max-found.ensures in
    let enough = looks_on c.take_seat-seat.result c.fetch_max-found.new.seat t.seat t.lent c.put_seat-else-found-to.ensures e.0 (stayed _ _ _ _ _ refl c.if-found-to.false e.2.0) in
    enough.logs

pub returns-else-found-to-clause-cells : goal.returns-else-found-to-clause-cells
returns-else-found-to-clause-cells g c =
    let t = c.take_seat-seat.ensures in
    let e = c.fetch_max-found.ensures in
    let enough = looks_on c.take_seat-seat.result c.fetch_max-found.new.seat t.seat t.lent c.put_seat-else-found-to.ensures e.0 (stayed _ _ _ _ _ refl c.if-found-to.false e.2.0) in
    enough.cells

pub returns-else-found-to-clause-whole_enough : goal.returns-else-found-to-clause-whole_enough
returns-else-found-to-clause-whole_enough g c =
    λ whole.
    let t = c.take_seat-seat.ensures in
    finds_seen t.held t.seat (stayed _ _ _ _ _ refl c.if-found-to.false c.fetch_max-found.ensures.2.0) whole
