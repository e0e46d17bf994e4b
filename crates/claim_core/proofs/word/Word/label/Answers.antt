use Rattle.std.proofs.Common.{ℕ, List, ap, ◌∙◌}
use Rattle.claim_core.specs.Hand.{HandView, seen_size}
use Rattle.claim_core.proofs.Kept.{marks}
use Rattle.claim_core.proofs.Belongs.{is_here, belongs}
use Rattle.claim_core.proofs.HandSteps.{marked_held, marks_on, nothing_more}
use Rattle.claim_core.proofs.word.Word.label.Goals as goal

pub take_seat-seat-requires : goal.take_seat-seat-requires
take_seat-seat-requires g c = is_here c.args.hand.now c.self.invariant c.self.view_is c.requires.ours

pub load-requires : goal.load-requires
load-requires g c =
    let t = c.take_seat-seat.ensures in
    let b = belongs t.held c.self.invariant t.seat c.self.view_is c.requires.ours in
    (b.same, b.words, marks _ _ _ _ b.limit b.base b.filled b.part _)

pub put_back-requires : goal.put_back-requires
put_back-requires g c =
    let t = c.take_seat-seat.ensures in
    marked_held c.load.new.seat g.P.Labels.numbers _ _ t.held c.load.ensures.2.0 c.load.ensures.2.1 (ap (λ (h : HandView). h.shares) t.lent)
    (ap seen_size t.lent ∙ nothing_more)

pub returns : goal.returns
returns g c =
    let t = c.take_seat-seat.ensures in
    marks_on c.take_seat-seat.result c.load.new.seat g.P.Labels.numbers t.seat t.lent c.put_back.ensures c.load.ensures.0 c.load.ensures.2.0
    ∙ ap (λ (ns : List ℕ). record c.args.hand.now { of = record c.args.hand.now.of { mark = ns } }) c.requires.numbers
