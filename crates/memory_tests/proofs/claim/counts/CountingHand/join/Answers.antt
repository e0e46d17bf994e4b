use Rattle.std.proofs.Common.{ap, arith}
use Rattle.claim_core.specs.Hand.{own_places}
use Rattle.memory_tests.proofs.claim.counts.CountingHand.join.Goals as goal

pub returns-clause-places : goal.returns-clause-places
returns-clause-places g c =
    let joined = c.join.ensures in
    let both = c.joined_places_add_up.ensures c.self.inside.hand c.other.inside.hand c.join.new.hand c.laws-2.ensures.below c.laws-3.ensures.below joined.begins joined.also_begins joined.mine in
    let one = ap own_places c.self.view_is in
    let other = ap own_places c.other.view_is in
    omega arith
