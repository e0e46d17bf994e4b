use Rattle.std.proofs.Common.{Some}
use Rattle.span_core.proofs.writers.with_writers.Given as goal

-- the writers may be of this vector alone
abbrev pub ghosts-lend_parts : goal.ghosts-lend_parts
ghosts-lend_parts g a = record { tied = Some a.vector.now.word }
