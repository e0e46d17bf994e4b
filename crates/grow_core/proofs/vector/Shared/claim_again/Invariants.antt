use Rattle.std.proofs.Common.{◌≡◌}
use mathlib.Core.List.{IsPrefix}
use Rattle.claim_core.specs.Hand.{IsWholeHand}
use Rattle.grow_core.specs.Vector.{SeesMore}
use Rattle.grow_core.proofs.vector.Shared.claim_again.Given as goal

abbrev pub invariant-loop-try : goal.invariant-loop-try
invariant-loop-try g l =
    (goal.iterator-loop-try g).can_next l._try-iterator
    × (goal.iterator-loop-try g).is_finite l._try-iterator
    × SeesMore l.fn.hand l.hand
    × (IsWholeHand l.fn.hand → l.hand ≡ l.fn.hand)
    × (l.hand.of ≡ l.self.word)
    × (l.value ≡ l.fn.value)
    × IsPrefix l.fn.hand.log l.hand.log
