use Rattle.std.proofs.Common.{◌≡◌, ◌+◌, ◌*◌, ◌≤◌, replicate, vec_capacity}
use Rattle.span_core.specs.Hands.{split_off}
use Rattle.span_core.proofs.even_split.split_even.Given as goal

abbrev pub invariant-loop-given : goal.invariant-loop-given
invariant-loop-given g l =
    (l.hands.items ≡ replicate l._given (split_off l.fn.hand l.each))
    × (l.hand ≡ record l.fn.hand { shares = l.hand.shares })
    × (l.hand.shares + l._given * l.each ≡ l.fn.hand.shares)
    × (l.n ≤ vec_capacity l.hands)
