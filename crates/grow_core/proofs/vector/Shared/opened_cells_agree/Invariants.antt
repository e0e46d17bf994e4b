use Rattle.std.proofs.Common.{◌≡◌, ℕ, ◌+◌, ◌<◌, Some}
use Rattle.std.specs.Prelude.{slice_get}
use Rattle.grow_core.specs.Parts.{values_in}
use Rattle.grow_core.specs.Vector.{IsOpenedAt}
use Rattle.grow_core.proofs.vector.Shared.opened_cells_agree.Given as goal

abbrev pub invariant-loop-i : goal.invariant-loop-i
invariant-loop-i g l =
    (j : ℕ) (x : g.row.T.Denot) → j < l.i → IsOpenedAt l.self (l.place + j) x → slice_get (values_in l.found) j ≡ Some (Some x)
