use Rattle.std.proofs.Common.{◌≡◌, length}
use Rattle.std.specs.Cmp.Lexicographic.{slice_cmp}
use Rattle.std.specs.Option.{option_cmp}
use Rattle.quiet_core.proofs.compare.order_of.Given as goal

abbrev pub invariant-loop-a : goal.invariant-loop-a
invariant-loop-a g l = slice_cmp (option_cmp g.T.Ord.cmp) l.initial.mine l.initial.theirs ≡ slice_cmp (option_cmp g.T.Ord.cmp) l.mine l.theirs

abbrev pub decreases-loop-a : goal.decreases-loop-a
decreases-loop-a g l = length l.mine
