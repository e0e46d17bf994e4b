use Rattle.std.proofs.Common.{sym, ◌∙◌}
use Rattle.memory_tests.proofs.claim.counts.CountingHand.claim.Goals as goal

pub invariant_of-self-in_default : goal.invariant_of-self-in_default
invariant_of-self-in_default g c =
    let lost = c.in_default.ensures.seen in
    c.self.invariant ∙ sym (c.own_counts_stay.ensures c.self.inside.hand c.raise.new.hand c.laws-2.ensures.below lost.own lost.seen)
