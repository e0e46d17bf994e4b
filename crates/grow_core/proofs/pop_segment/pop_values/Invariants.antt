use Rattle.std.proofs.Common.{◌≡◌, ◌+◌, vec_len, vec_capacity}
use Rattle.grow_core.specs.PopSegment.{PopsValues}
use Rattle.grow_core.proofs.pop_segment.pop_values.Given as goal

abbrev pub invariant-loop-i : goal.invariant-loop-i
invariant-loop-i g l = PopsValues l.fn.block l.block l.n l.fn.row l.row l.fn.values.items l.values.items l.i
    × (vec_len l.values ≡ vec_len l.fn.values + l.i) × (vec_capacity l.values ≡ vec_capacity l.fn.values)
