use Rattle.std.proofs.Common.{ap, sym, ◌∙◌, slice_set}
use Rattle.step_core.specs.machine.Blocks.{Shown, shown, shown_with_segment}
use Rattle.step_core.proofs.atomic_steps.BlockViews.{segment_inside, installed_already, no_block_there, shows_block}
use Rattle.step_core.proofs.machine.blocks.Blocks.install.Goals as goal

pub returns-then-has-clause-ok : goal.returns-then-has-clause-ok
returns-then-has-clause-ok c = installed_already _ c.args.segment (sym c.has.ensures ∙ c.if-has.true)

pub returns-clause-ok : goal.returns-clause-ok
returns-clause-ok c =
    let none = no_block_there c.self.view_is c.self.invariant c.args.segment (sym c.has.ensures ∙ c.if-has.false) in
    ap (λ entry. shown c.self.inside.layout (slice_set c.self.inside.entries c.args.segment entry)) c.in_ok-make_in.ensures.ok
    ∙ shows_block c.self.inside.layout c.self.inside.entries c.args.segment c.len.result c.self.invariant (segment_inside c.self.view_is c.self.invariant c.args.segment c.requires) none
    ∙ ap (λ (s : Shown). shown_with_segment s c.args.segment) c.self.view_is
