use Rattle.std.proofs.Common.{sym, subst}
use mathlib.Core.List.{IsPrefix}
use Rattle.memory_tests.proofs.claim.keys.KeyedHand.meet.Goals as goal

pub invariant_of-self : goal.invariant_of-self
invariant_of-self g c place own =
    let met = c.meet.ensures in
    c.self.invariant place (c.own_places_stay.ensures c.self.inside.hand c.meet.new.a place c.laws.ensures.below met.own met.begins own)

pub invariant_of-other : goal.invariant_of-other
invariant_of-other g c place own =
    let met = c.meet.ensures in
    let seen = subst (λ s. IsPrefix c.other.inside.hand.seen s) (sym met.same) met.also_begins in
    c.other.invariant place (c.own_places_stay.ensures c.other.inside.hand c.meet.new.b place c.laws-2.ensures.below met.also_own seen own)
