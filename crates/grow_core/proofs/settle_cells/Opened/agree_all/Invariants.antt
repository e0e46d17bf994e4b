use Rattle.std.proofs.Common.{◌≡◌, ℕ, ◌+◌, ◌<◌, Some}
use Rattle.std.specs.Prelude.{slice_get}
use Rattle.cell_core.specs.Member.{MemberView}
use Rattle.grow_core.specs.Closing.{KeepsKnown}
use Rattle.grow_core.proofs.settle_cells.Opened.agree_all.Given as goal

abbrev pub invariant-loop-i : goal.invariant-loop-i
invariant-loop-i g l =
    (j : ℕ) (k m : MemberView g.row.T.Denot) → j < l.i → slice_get l.self (l.place + j) ≡ Some k → slice_get l.found j ≡ Some m → KeepsKnown k.value m.value
