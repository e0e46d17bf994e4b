use Rattle.grow_core.proofs.Made.{cause_of_left}
use Rattle.grow_core.proofs.vector.Shared.grow_to_at_least.Goals as goal

pub returns-clause-cause : goal.returns-clause-cause
returns-clause-cause g c = cause_of_left (goal.F-step g) c.args.make c.make_up_to.new.make c.make_up_to.result c.make_up_to.ensures.asked
