use Rattle.std.proofs.Common.{◌≡◌, ◌/◌, ⊎_elim}
use Rattle.claim_core.specs.Hand.{OwnsPlace}
use Rattle.memory_tests.proofs.claim.keys.KeyedHand.join.Goals as goal

pub invariant_of-self : goal.invariant_of-self
invariant_of-self g c place own =
    let joined = c.join.ensures in
    let a = c.self.inside.hand in
    let b = c.other.inside.hand in
    let also_of : c.join.new.hand.of ≡ b.of = cc (joined.of, c.requires.ours, c.requires.also_ours, c.self.view_is, c.other.view_is) in
    ⊎_elim
    (λ (was : OwnsPlace a place). c.put_keys.ensures.kept (place / 34359738368) (c.self.invariant place was))
    (λ (was : OwnsPlace b place). c.put_keys.ensures.put (place / 34359738368) (c.other.invariant place was))
    (c.joined_places_are_of_either.ensures a b c.join.new.hand place c.laws.ensures.below c.laws-2.ensures.below joined.of also_of joined.begins joined.also_begins joined.mine own)
