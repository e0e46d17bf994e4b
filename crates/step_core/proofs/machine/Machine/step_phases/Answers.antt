use Rattle.std.proofs.Common.{refl}
use Rattle.step_core.proofs.atomic_steps.Actors.{steps_have_room}
use Rattle.step_core.proofs.atomic_steps.Bounds.{left_in_limit}
use Rattle.step_core.proofs.atomic_steps.Installed.{left_has_segments}
use Rattle.step_core.proofs.machine.Machine.step_phases.Goals as goal

pub invariant_of-self : goal.invariant_of-self
invariant_of-self c = (
  left_in_limit c.step_among.result (λ step. step.stepped) _ (record { limit = c.self.inside.limit; storage = c.step_among.new.storage; actors = c.step_among.new.actors.items }) c.args.actor c.args.memory c.self.invariant.0 refl c.step_among.ensures.steps c.step_among.ensures.err,
  left_has_segments c.step_among.result (λ step. step.stepped) _ (record { limit = c.self.inside.limit; storage = c.step_among.new.storage; actors = c.step_among.new.actors.items }) c.args.actor c.args.memory c.self.invariant.0 c.self.invariant.1 c.step_among.ensures.steps c.step_among.ensures.err,
)

pub returns-clause-room : goal.returns-clause-room
returns-clause-room c = steps_have_room c.step_among.result (λ step. step.phases) (record { limit = c.self.inside.limit; storage = c.self.inside.storage; actors = c.self.inside.actors.items }) (record { limit = c.self.inside.limit; storage = c.step_among.new.storage; actors = c.step_among.new.actors.items }) c.args.actor c.step_among.ensures.phases (invariant_of-self c).0
