use Rattle.std.proofs.Common.{◌≡◌}
use Rattle.grow_core.proofs.vector.Shared.install_first.Given as goal

abbrev pub invariant-loop-segment : goal.invariant-loop-segment
invariant-loop-segment g l = l.claims ≡ l.fn.claims
