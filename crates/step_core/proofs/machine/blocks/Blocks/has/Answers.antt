use Rattle.std.proofs.Common.{ap, sym, ◌∙◌, is_some}
use Rattle.step_core.proofs.atomic_steps.BlockViews.{segment_inside, installed_is}
use Rattle.step_core.proofs.machine.blocks.Blocks.has.Goals as goal

pub returns : goal.returns
returns c =
    c.is_some.ensures ∙ ap is_some (sym c.index-self-segment.is)
    ∙ sym (installed_is c.self.view_is c.self.invariant c.args.segment (segment_inside c.self.view_is c.self.invariant c.args.segment c.requires) c.index-self-segment.is)
