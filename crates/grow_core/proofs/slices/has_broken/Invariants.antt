use Rattle.std.proofs.Common.{◌≡◌, ◌≢◌, ℕ, ◌+◌, ◌<◌, None, Some}
use Rattle.std.specs.Prelude.{slice_get}
use Rattle.cell_core.specs.Member.{MemberView}
use Rattle.grow_core.proofs.slices.has_broken.Given as goal

abbrev pub invariant-loop-i : goal.invariant-loop-i
invariant-loop-i g l = (j : ℕ) (m : MemberView g.row.T.Denot) → j < l.i → slice_get l.row (l.place + j) ≡ Some m → m.value ≢ None
