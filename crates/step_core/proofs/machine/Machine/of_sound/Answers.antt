use Rattle.std.proofs.Common.{rules}
use Rattle.step_core.proofs.atomic_steps.Bounds.{new_in_limit}
use Rattle.step_core.proofs.atomic_steps.Installed.{new_has_segments}
use Rattle.step_core.proofs.machine.Machine.of_sound.Goals as goal

pub invariant_of-result : goal.invariant_of-result
invariant_of-result c = (
  new_in_limit _ c.args.limit c.new.result c.in_ok-actors_of.field-0.items c.args.programs c.new.ensures.layout (search rules) c.new.ensures.empty c.in_ok-actors_of.ensures,
  new_has_segments _ c.args.limit c.new.result c.in_ok-actors_of.field-0.items c.args.programs c.new.ensures.empty c.in_ok-actors_of.ensures,
)
