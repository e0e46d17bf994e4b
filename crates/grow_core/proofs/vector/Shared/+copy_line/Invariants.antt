use Rattle.grow_core.proofs.vector.Shared.+copy_line.Given as goal

abbrev pub decreases-copy_line : goal.decreases-copy_line
decreases-copy_line g l = l.n
