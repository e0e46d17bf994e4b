use Rattle.std.proofs.Common.{◌≡◌, length}
use Rattle.std.specs.Cmp.Lexicographic.{pointwise}
use Rattle.std.specs.Option.{option_eq}
use Rattle.quiet_core.proofs.compare.are_same.Given as goal

abbrev pub invariant-loop-a : goal.invariant-loop-a
invariant-loop-a g l = pointwise (option_eq g.T.PartialEq.eq) l.initial.mine l.initial.theirs ≡ pointwise (option_eq g.T.PartialEq.eq) l.mine l.theirs

abbrev pub decreases-loop-a : goal.decreases-loop-a
decreases-loop-a g l = length l.mine
