use Rattle.std.proofs.Common.{drop}
use Rattle.owner_tests.proofs.Leaves.{Tiles}
use Rattle.owner_tests.proofs.span.uses.walk_leaves.Given as goal

abbrev pub invariant-loop-leaf : goal.invariant-loop-leaf
invariant-loop-leaf l = Tiles l.next l.fn.span.to (drop l.leaf-index l.leaf-items)
