use Rattle.std.proofs.Common.{◌≡◌, ℕ, ◌<◌, None, Some}
use Rattle.std.specs.Prelude.{slice_get}
use Rattle.quiet_core.proofs.quiet.Quiet.first_broken.Given as goal

abbrev pub invariant-loop-place : goal.invariant-loop-place
invariant-loop-place g l = (i : ℕ) → i < l.place → slice_get l.self.members i ≡ Some None → ⊥
