use Rattle.std.proofs.Common.{arith}
use Rattle.claim_core.proofs.Belongs.{is_here, belongs}
use Rattle.claim_core.proofs.WholeHand.{closes}
use Rattle.claim_core.proofs.word.Word.close.Goals as goal

pub into_seat-requires : goal.into_seat-requires
into_seat-requires g c = is_here c.args.hand c.self.invariant c.self.view_is c.requires.ours

pub close_with-closed-requires : goal.close_with-closed-requires
close_with-closed-requires g c =
    let t = c.into_seat.ensures in
    (belongs t.held c.self.invariant t.seat c.self.view_is c.requires.ours).same

pub free-requires : goal.free-requires
free-requires g c = λ k below. let n = c.close_with-closed.ensures.counts in let o = c.self.invariant.slots in absurd (omega arith)

pub returns : goal.returns
returns g c =
    let t = c.into_seat.ensures in
    let b = belongs t.held c.self.invariant t.seat c.self.view_is c.requires.ours in
    closes _ _ _ b t.seat c.close_with-closed.ensures.values.2 c.word-size.ensures c.requires.whole
