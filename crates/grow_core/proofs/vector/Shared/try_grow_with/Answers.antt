use Rattle.grow_core.proofs.Made.{cause_of_left}
use Rattle.grow_core.proofs.vector.Shared.try_grow_with.Goals as goal

pub returns-clause-cause : goal.returns-clause-cause
returns-clause-cause g c = cause_of_left (goal.F-step g) c.args.make c.try_make.new.make c.try_make.result c.try_make.ensures.asked
