use Rattle.std.proofs.Common.{◌≡◌}
use Rattle.grow_core.proofs.Fixing.{AreFixedUpTo}
use Rattle.grow_core.proofs.close.fix_cells.Given as goal

abbrev pub invariant-loop-i : goal.invariant-loop-i
invariant-loop-i g l = AreFixedUpTo l.fn.claims l.fn.layout l.segment l.fn.block l.block l.i × (l.claims ≡ l.fn.claims)
