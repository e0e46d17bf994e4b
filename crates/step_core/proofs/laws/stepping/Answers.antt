use Rattle.step_core.proofs.atomic_steps.KeptLayout.{plays_keep_the_layout}
use Rattle.step_core.proofs.atomic_steps.Plays.{plays_go_on_by_a_step}
use Rattle.step_core.proofs.laws.stepping.Goals as goal

pub returns-clause-goes_on : goal.returns-clause-goes_on
returns-clause-goes_on c = plays_go_on_by_a_step

pub returns-clause-layout : goal.returns-clause-layout
returns-clause-layout c = plays_keep_the_layout
