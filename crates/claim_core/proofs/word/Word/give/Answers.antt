use Rattle.std.proofs.Common.{◌≡◌, ◌+◌, ◌∙◌, ap, arith, ℕ}
use Rattle.claim_core.specs.Lengths.{times}
use Rattle.claim_core.specs.Hand.{HandView}
use Rattle.claim_core.specs.SeatView.{Seated}
use Rattle.claim_core.proofs.Kept.{cuts}
use Rattle.claim_core.proofs.Belongs.{is_here, some_words, belongs, held_cut}
use Rattle.claim_core.proofs.HandSteps.{cut_on, cut_off}
use Rattle.claim_core.proofs.word.Word.give.Goals as goal

pub take_seat-seat-requires : goal.take_seat-seat-requires
take_seat-seat-requires g c = is_here c.args.hand.now c.self.invariant c.self.view_is c.requires.ours

pub split_seat-part-requires : goal.split_seat-part-requires
split_seat-part-requires g c =
    let t = c.take_seat-seat.ensures in
    let b = belongs t.held c.self.invariant t.seat c.self.view_is c.requires.ours in
    let shares = ap (λ (h : HandView). h.shares) t.seat in
    let runs : (k : ℕ) → times k g.P.Divides.kept_runs + times k g.P.Divides.given_runs ≡ times k c.take_seat-seat.result.me.0.mine =
    λ k. let x = ap (times k) c.requires.kept_runs in
    let y = ap (times k) c.requires.given_runs in
    let z = ap (λ (h : HandView). times k h.mine) t.seat in
    omega arith in
    (b.same, some_words b.words, cuts _ _ _ _ _ _ _ (omega arith) (omega arith) (omega arith) runs)

pub put_shares-requires : goal.put_shares-requires
put_shares-requires g c =
    let t = c.take_seat-seat.ensures in
    let e = c.split_seat-part.ensures in
    let most = t.held.consistent.shares in
    let own = t.held.shares in
    let left = c.share.ensures in
    let seen = c.seen-seen.ensures in
    held_cut c.take_seat-seat.result.me.0 c.split_seat-part.new.seat g.P.Divides.kept_runs g.P.Divides.kept_shares _ _ t.held.consistent (seen ∙ t.held.seen)
    (ap {A = Seated} (λ m. m.0) e.2) (ap {A = Seated} (λ m. m.1) e.2 ∙ t.held.no_slot) (omega arith) (omega arith) (omega arith)
    (λ k. let x = ap (times k) c.requires.kept_runs in let z = ap (λ (h : HandView). times k h.mine) t.seat in omega arith)

pub like-requires : goal.like-requires
like-requires g c =
    let t = c.take_seat-seat.ensures in
    let e = c.split_seat-part.ensures in
    let most = t.held.consistent.shares in
    let own = t.held.shares in
    let seen = c.seen-seen.ensures in
    held_cut c.take_seat-seat.result.me.0 c.split_seat-part.result g.P.Divides.given_runs g.P.Divides.given_shares _ _ t.held.consistent (seen ∙ t.held.seen)
    (ap {A = Seated} (λ m. m.0) e.4) (ap {A = Seated} (λ m. m.1) e.4) (omega arith) (omega arith) (omega arith)
    (λ k. let x = ap (times k) c.requires.given_runs in omega arith)

pub returns-clause-kept : goal.returns-clause-kept
returns-clause-kept g c =
    let t = c.take_seat-seat.ensures in
    let e = c.split_seat-part.ensures in
    cut_on c.take_seat-seat.result c.split_seat-part.new.seat t.seat t.lent c.put_shares.ensures e.0 (ap {A = Seated} (λ m. m.0) e.2) c.requires.kept_runs c.requires.kept_shares

pub returns-clause-given : goal.returns-clause-given
returns-clause-given g c =
    let t = c.take_seat-seat.ensures in
    let e = c.split_seat-part.ensures in
    cut_off c.take_seat-seat.result c.split_seat-part.new.seat c.split_seat-part.result t.seat t.lent c.put_shares.ensures c.like.ensures e.3 (ap {A = Seated} (λ m. m.0) e.4) c.requires.given_runs c.requires.given_shares
