use Rattle.std.proofs.Common.{subst}
use Rattle.claim_core.specs.Hand.{HandView}
use Rattle.grow_core.specs.Steps.{FindsMore}
use Rattle.grow_core.proofs.KeyRows.{none_is_none}
use Rattle.grow_core.proofs.Works.{finds_on, hand_still}
use Rattle.grow_core.proofs.vector.Shared.last_key.Goals as goal

pub invariant_of-hand : goal.invariant_of-hand
invariant_of-hand g c =
    hand_still c.hand.inside.claims c.scout_row.new.claims c.scout_row.ensures.finds.keeps c.scout_row.ensures.finds.rows c.hand.inside.keys c.hand.invariant

pub returns-in-None-clause-finds : goal.returns-in-None-clause-finds
returns-in-None-clause-finds g c =
    finds_on c.args.hand.now c.known_key.new.hand c.scout_row.new.claims c.known_key.ensures.finds
    (subst (λ (h : HandView). FindsMore h c.scout_row.new.claims) c.hand.view_is c.scout_row.ensures.finds)

pub returns-in-None-clause-there : goal.returns-in-None-clause-there
returns-in-None-clause-there g c place owns there = absurd (none_is_none c.known_key.result c.in-None.is (c.known_key.ensures.there place owns there))
