use Rattle.std.proofs.Common.{◌≡◌, ℕ, ◌<◌, Contains, length, subst}
use Rattle.claim_core.specs.Hand.{HandView}
use Rattle.claim_core.specs.History.{lengths_of}
use Rattle.grow_core.proofs.hand.Hand.whole_laws.Goals as goal

pub returns-clause-all : goal.returns-clause-all
returns-clause-all g c = subst (λ (h : HandView). (k : ℕ) → k < length h.seen → Contains h.mine k) c.self.view_is c.whole_laws.ensures.all

pub returns-clause-claims : goal.returns-clause-claims
returns-clause-claims g c = subst (λ (h : HandView). lengths_of h.log ≡ h.seen) c.self.view_is c.whole_laws.ensures.claims
