use Rattle.grow_core.proofs.Made.{first_made}
use Rattle.grow_core.proofs.makers.first_is_for_zero.Goals as goal

pub returns : goal.returns
returns g c = first_made {E = g.row.E.Denot} (goal.F-step g)
