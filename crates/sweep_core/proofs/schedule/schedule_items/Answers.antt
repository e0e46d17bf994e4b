use Rattle.sweep_core.proofs.Sampled.{schedule_of_three}
use Rattle.sweep_core.proofs.schedule.schedule_items.Goals as goal

pub returns-clause-actors : goal.returns-clause-actors
returns-clause-actors c = schedule_of_three (λ made. made.items) _ c.args.len c.items_of.result c.items_of.ensures
