use Rattle.std.proofs.Common.{◌≡◌}
use Rattle.vector_tests.proofs.tests.race.work.wait_and_read.Given as goal

abbrev pub invariant-loop-look : goal.invariant-loop-look
invariant-loop-look g l =
    (goal.iterator-loop-look g).can_next l._look-iterator
    × (goal.iterator-loop-look g).is_finite l._look-iterator
    × (l.hand.of ≡ l.fn.hand.of)
