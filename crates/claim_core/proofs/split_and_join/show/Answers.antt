use Rattle.std.proofs.Common.{◌≡◌, ◌+◌, ◌<◌, ◌∙◌, ap, arith, ℕ}
use Rattle.claim_core.specs.Lengths.{times}
use Rattle.claim_core.specs.SeatView.{Seated}
use Rattle.claim_core.proofs.Counts.{times-append}
use Rattle.claim_core.proofs.Belongs.{some_words}
use Rattle.claim_core.proofs.Kept.{loads, cuts, merges}
use Rattle.claim_core.proofs.split_and_join.show.Goals as goal

pub join_seat-requires : goal.join_seat-requires
join_seat-requires g c =
    let p = c.requires.pair in
    (p.same, p.other_same, p.no_slot, some_words p.words, merges _ _ _ _ _ p.part p.other_part)

pub load-size-requires : goal.load-size-requires
load-size-requires g c =
    let p = c.requires.pair in
    let e = c.join_seat.ensures in
    let part : 0 < c.join_seat.new.seat.me.0.shares = let s = ap {A = Seated} (λ m. m.0.shares) e.2 in let q = p.part in omega arith in
    (e.0 ∙ p.same, p.words, loads _ _ _ _ (ap {A = Seated} (λ m. m.0.limit) e.2 ∙ p.limit) (ap {A = Seated} (λ m. m.0.base) e.2 ∙ p.base) (ap {A = Seated} (λ m. m.0.filled) e.2 ∙ p.filled) part)

pub split_seat-requires : goal.split_seat-requires
split_seat-requires g c =
    let p = c.requires.pair in
    let e = c.join_seat.ensures in
    let l = c.load-size.ensures in
    let part = p.part in
    let other_part = p.other_part in
    let kept = c.requires.kept_shares in
    let given = c.requires.given_shares in
    let joined = ap {A = Seated} (λ m. m.0.shares) e.2 in
    let same = l.2.0.same.shares in
    let runs : (k : ℕ) → times k g.P.Divides.kept_runs + times k g.P.Divides.given_runs ≡ times k c.load-size.new.seat.me.0.mine =
    λ k. let x = ap (times k) c.requires.kept_runs in
    let y = ap (times k) c.requires.given_runs in
    let z = ap (times k) (l.2.0.same.mine ∙ ap {A = Seated} (λ m. m.0.mine) e.2) in
    let t = times-append k c.args.seat.now.me.0.mine c.args.other.me.0.mine in
    omega arith in
    (l.0 ∙ (e.0 ∙ p.same), some_words p.words, cuts _ _ _ _ _ _ _ (omega arith) (omega arith) (omega arith) runs)
