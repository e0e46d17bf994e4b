use Rattle.std.proofs.Common.{◌<◌, ◌∙◌, ap, sym, arith}
use Rattle.claim_core.specs.Hand.{HandView}
use Rattle.claim_core.specs.SeatView.{Seated, longer}
use Rattle.claim_core.proofs.Kept.{merges, settles}
use Rattle.claim_core.proofs.Belongs.{is_here, some_words, belongs}
use Rattle.claim_core.proofs.HandSteps.{joins_on, join_held}
use Rattle.claim_core.proofs.word.Word.join.Goals as goal

pub take_seat-seat-requires : goal.take_seat-seat-requires
take_seat-seat-requires g c = is_here c.args.hand.now c.self.invariant c.self.view_is c.requires.ours

pub into_seat-part-requires : goal.into_seat-part-requires
into_seat-part-requires g c = is_here c.args.other c.self.invariant c.self.view_is c.requires.also_ours

pub overflow_add-shares : goal.overflow_add-shares
overflow_add-shares g c =
    let t = c.take_seat-seat.ensures.held in
    let u = c.into_seat-part.ensures.held in
    let own = t.shares in
    let most = t.consistent.shares in
    let given = u.shares in
    let also_most = u.consistent.shares in
    let here = ap (λ (h : HandView). h.shares) c.take_seat-seat.ensures.lent in
    omega arith

pub join_seat-requires : goal.join_seat-requires
join_seat-requires g c =
    let t = c.take_seat-seat.ensures in
    let u = c.into_seat-part.ensures in
    let b = belongs t.held c.self.invariant t.seat c.self.view_is c.requires.ours in
    let d = belongs u.held c.self.invariant u.seat c.self.view_is c.requires.also_ours in
    (b.same, d.same, u.held.no_slot, some_words b.words, merges _ _ _ _ _ b.part d.part)

pub load-requires : goal.load-requires
load-requires g c =
    let t = c.take_seat-seat.ensures in
    let b = belongs t.held c.self.invariant t.seat c.self.view_is c.requires.ours in
    let e = c.join_seat.ensures in
    let part : 0 < c.join_seat.new.seat.me.0.shares = let s = ap {A = Seated} (λ m. m.0.shares) e.2 in let q = b.part in omega arith in
    let seen = ap {A = Seated} (λ m. m.0.seen) e.2 ∙ sym (ap (λ m. longer m.0.one m.0.other) e.2) in
    let log = ap {A = Seated} (λ m. m.0.log) e.2 ∙ sym (ap (λ m. longer m.0.one_log m.0.other_log) e.2) in
    (e.0 ∙ b.same, b.words, settles _ _ _ _ (ap {A = Seated} (λ m. m.0.limit) e.2 ∙ b.limit) (ap {A = Seated} (λ m. m.0.base) e.2 ∙ b.base) (ap {A = Seated} (λ m. m.0.filled) e.2 ∙ b.filled) part seen log)

pub put_shares-requires : goal.put_shares-requires
put_shares-requires g c =
    let t = c.take_seat-seat.ensures in
    let u = c.into_seat-part.ensures in
    let b = belongs t.held c.self.invariant t.seat c.self.view_is c.requires.ours in
    let d = belongs u.held c.self.invariant u.seat c.self.view_is c.requires.also_ours in
    let s = c.load.ensures in
    let here = c.share.ensures in
    let lent = ap (λ (h : HandView). h.shares) t.lent in
    let first = c.seen.ensures in
    let second = c.seen-2.ensures in
    join_held c.join_seat.new.seat c.load.new.seat _ _ t.held u.held (d.base ∙ sym b.base) c.join_seat.ensures.2 s.2.1 s.2.0 (cc) (cc)

pub returns-clause-of : goal.returns-clause-of
returns-clause-of g c =
    let t = c.take_seat-seat.ensures in
    let e = c.join_seat.ensures in
    let s = c.load.ensures in
    (joins_on c.take_seat-seat.result c.into_seat-part.result c.join_seat.new.seat c.load.new.seat t.seat c.into_seat-part.ensures.seat t.lent c.put_shares.ensures e.0 s.0 (ap {A = Seated} (λ m. m.0) e.2) s.2.0).of

pub returns-clause-mine : goal.returns-clause-mine
returns-clause-mine g c =
    let t = c.take_seat-seat.ensures in
    let e = c.join_seat.ensures in
    let s = c.load.ensures in
    (joins_on c.take_seat-seat.result c.into_seat-part.result c.join_seat.new.seat c.load.new.seat t.seat c.into_seat-part.ensures.seat t.lent c.put_shares.ensures e.0 s.0 (ap {A = Seated} (λ m. m.0) e.2) s.2.0).mine

pub returns-clause-shares : goal.returns-clause-shares
returns-clause-shares g c =
    let t = c.take_seat-seat.ensures in
    let e = c.join_seat.ensures in
    let s = c.load.ensures in
    (joins_on c.take_seat-seat.result c.into_seat-part.result c.join_seat.new.seat c.load.new.seat t.seat c.into_seat-part.ensures.seat t.lent c.put_shares.ensures e.0 s.0 (ap {A = Seated} (λ m. m.0) e.2) s.2.0).shares

pub returns-clause-seen : goal.returns-clause-seen
returns-clause-seen g c =
    let t = c.take_seat-seat.ensures in
    let e = c.join_seat.ensures in
    let s = c.load.ensures in
    (joins_on c.take_seat-seat.result c.into_seat-part.result c.join_seat.new.seat c.load.new.seat t.seat c.into_seat-part.ensures.seat t.lent c.put_shares.ensures e.0 s.0 (ap {A = Seated} (λ m. m.0) e.2) s.2.0).seen

pub returns-clause-begins : goal.returns-clause-begins
returns-clause-begins g c =
    let t = c.take_seat-seat.ensures in
    let e = c.join_seat.ensures in
    let s = c.load.ensures in
    (joins_on c.take_seat-seat.result c.into_seat-part.result c.join_seat.new.seat c.load.new.seat t.seat c.into_seat-part.ensures.seat t.lent c.put_shares.ensures e.0 s.0 (ap {A = Seated} (λ m. m.0) e.2) s.2.0).begins

pub returns-clause-also_begins : goal.returns-clause-also_begins
returns-clause-also_begins g c =
    let t = c.take_seat-seat.ensures in
    let e = c.join_seat.ensures in
    let s = c.load.ensures in
    (joins_on c.take_seat-seat.result c.into_seat-part.result c.join_seat.new.seat c.load.new.seat t.seat c.into_seat-part.ensures.seat t.lent c.put_shares.ensures e.0 s.0 (ap {A = Seated} (λ m. m.0) e.2) s.2.0).also_begins

pub returns-clause-begins_log : goal.returns-clause-begins_log
returns-clause-begins_log g c =
    let t = c.take_seat-seat.ensures in
    let e = c.join_seat.ensures in
    let s = c.load.ensures in
    (joins_on c.take_seat-seat.result c.into_seat-part.result c.join_seat.new.seat c.load.new.seat t.seat c.into_seat-part.ensures.seat t.lent c.put_shares.ensures e.0 s.0 (ap {A = Seated} (λ m. m.0) e.2) s.2.0).begins_log

pub returns-clause-also_begins_log : goal.returns-clause-also_begins_log
returns-clause-also_begins_log g c =
    let t = c.take_seat-seat.ensures in
    let e = c.join_seat.ensures in
    let s = c.load.ensures in
    (joins_on c.take_seat-seat.result c.into_seat-part.result c.join_seat.new.seat c.load.new.seat t.seat c.into_seat-part.ensures.seat t.lent c.put_shares.ensures e.0 s.0 (ap {A = Seated} (λ m. m.0) e.2) s.2.0).also_begins_log

pub returns-clause-cells : goal.returns-clause-cells
returns-clause-cells g c =
    let t = c.take_seat-seat.ensures in
    let e = c.join_seat.ensures in
    let s = c.load.ensures in
    (joins_on c.take_seat-seat.result c.into_seat-part.result c.join_seat.new.seat c.load.new.seat t.seat c.into_seat-part.ensures.seat t.lent c.put_shares.ensures e.0 s.0 (ap {A = Seated} (λ m. m.0) e.2) s.2.0).cells

pub returns-clause-apart : goal.returns-clause-apart
returns-clause-apart g c =
    let t = c.take_seat-seat.ensures in
    let e = c.join_seat.ensures in
    let s = c.load.ensures in
    (joins_on c.take_seat-seat.result c.into_seat-part.result c.join_seat.new.seat c.load.new.seat t.seat c.into_seat-part.ensures.seat t.lent c.put_shares.ensures e.0 s.0 (ap {A = Seated} (λ m. m.0) e.2) s.2.0).apart
