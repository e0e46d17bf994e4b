use Rattle.std.proofs.Common.{◌≡◌, ◌+◌, ◌*◌, ◌<◌, ℕ, Some, length, take, drop}
use Rattle.std.specs.Prelude.{slice_get}
use Rattle.handle_core.proofs.members.copy_values.Given as goal

-- the first `i` parts of the array are the members
abbrev pub invariant-loop-i : goal.invariant-loop-i
invariant-loop-i g l =
    ((j : ℕ) → j < l.i → slice_get l.list.members (l.place + j) ≡ Some (Some (take g.row.N (drop (j * g.row.N) l.values))))
    × (length l.values ≡ length l.initial.values)
