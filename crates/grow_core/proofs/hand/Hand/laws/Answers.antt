use Rattle.std.proofs.Common.{ℕ, ◌<◌, Contains, length, subst}
use mathlib.Core.List.{IsPrefix}
use Rattle.claim_core.specs.Hand.{HandView}
use Rattle.claim_core.specs.History.{IsHistoryOf, lengths_of}
use Rattle.grow_core.proofs.hand.Hand.laws.Goals as goal

pub returns-clause-below : goal.returns-clause-below
returns-clause-below g c = subst (λ (h : HandView). (k : ℕ) → Contains h.mine k → k < length h.seen) c.self.view_is c.laws.ensures.below

pub returns-clause-history : goal.returns-clause-history
returns-clause-history g c = subst (λ (h : HandView). IsHistoryOf h.of.limit h.of.base h.of.filled h.log) c.self.view_is c.laws.ensures.history

pub returns-clause-lengths : goal.returns-clause-lengths
returns-clause-lengths g c = subst (λ (h : HandView). IsPrefix h.seen (lengths_of h.log)) c.self.view_is c.laws.ensures.lengths
