use Rattle.std.proofs.Common.{ap, sym, ◌∙◌, subst, slice_set}
use Rattle.step_core.specs.machine.Blocks.{AreBlocks, shown}
use Rattle.step_core.proofs.atomic_steps.BlockViews.{entry_there, entry_reaches, set_is_blocks, set_shows}
use Rattle.step_core.proofs.machine.blocks.Blocks.set.Goals as goal

pub set_in-requires-clause-there : goal.set_in-requires-clause-there
set_in-requires-clause-there c =
    let at = c.locate-segment.ensures in
    entry_there c.self.view_is c.self.invariant at.segment at.bound c.locate-segment.result.1 at.offset c.index-self-segment.is c.requires.there

pub set_in-requires-clause-inside : goal.set_in-requires-clause-inside
set_in-requires-clause-inside c =
    let at = c.locate-segment.ensures in
    entry_reaches c.self.view_is c.self.invariant at.segment at.bound c.locate-segment.result.1 at.offset c.index-self-segment.is

pub invariant_of-self : goal.invariant_of-self
invariant_of-self c =
    let at = c.locate-segment.ensures in
    subst (λ e. AreBlocks c.self.inside.layout (slice_set c.self.inside.entries c.locate-segment.result.0 e)) (sym c.set_in.ensures)
    (set_is_blocks c.self.view_is c.self.invariant at.segment at.bound c.locate-segment.result.1 at.offset c.index-self-segment.is c.args.slot c.requires.there)

pub returns : goal.returns
returns c =
    let at = c.locate-segment.ensures in
    ap (λ e. shown c.self.inside.layout (slice_set c.self.inside.entries c.locate-segment.result.0 e)) c.set_in.ensures
    ∙ set_shows c.self.view_is c.self.invariant at.segment at.bound c.locate-segment.result.1 at.offset c.index-self-segment.is c.args.slot c.requires.there
