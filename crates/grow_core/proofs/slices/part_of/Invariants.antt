use Rattle.std.proofs.Common.{◌≡◌, take, drop}
use Rattle.grow_core.proofs.slices.part_of.Given as goal

abbrev pub invariant-loop-i : goal.invariant-loop-i
invariant-loop-i g l = l.part ≡ take l.i (drop l.place l.row)
