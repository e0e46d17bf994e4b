use Rattle.std.proofs.Common.{sym, subst}
use Rattle.claim_core.specs.Hand.{HandView}
use Rattle.grow_core.specs.Keys.{IsKeyed}
use Rattle.grow_core.specs.Ties.{KnowsRows}
use Rattle.grow_core.proofs.vector.Shared.reserve.Goals as goal

-- the hand is what it was
pub invariant_of-hand : goal.invariant_of-hand
invariant_of-hand g c =
    subst (λ (h : HandView). IsKeyed h c.hand.inside.keys × KnowsRows h c.hand.inside.keys) (sym c.install_first.ensures) c.hand.invariant
