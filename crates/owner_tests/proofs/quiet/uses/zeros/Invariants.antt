use Rattle.std.proofs.Common.{◌≡◌, ◌≤◌, Some, replicate}
use Rattle.owner_tests.proofs.quiet.uses.zeros.Given as goal

abbrev pub invariant-loop-turn : goal.invariant-loop-turn
invariant-loop-turn l = (l.list.members ≡ replicate l._turn (Some 0)) × (l.list.limit ≡ l.n) × (l.n ≤ l.list.capacity)
