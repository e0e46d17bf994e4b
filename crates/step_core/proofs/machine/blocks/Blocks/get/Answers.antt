use Rattle.std.proofs.Common.{sym, ◌∙◌}
use Rattle.step_core.proofs.atomic_steps.BlockViews.{slot_past, slot_in_entry}
use Rattle.step_core.proofs.machine.blocks.Blocks.get.Goals as goal

pub returns-then-place-ge-MOST_PLACES : goal.returns-then-place-ge-MOST_PLACES
returns-then-place-ge-MOST_PLACES c =
    sym (slot_past c.self.view_is c.self.invariant c.args.place c.if-place-ge-MOST_PLACES.true)

pub returns-in-Some : goal.returns-in-Some
returns-in-Some c =
    let at = c.locate-segment.ensures in
    c.get.ensures
    ∙ sym (slot_in_entry c.self.view_is c.self.invariant c.args.place c.locate-segment.result.0 c.locate-segment.result.1 _ _ at.number at.bound at.offset c.index-entries-segment.is c.in-Some.is)

pub returns-in-None : goal.returns-in-None
returns-in-None c =
    let at = c.locate-segment.ensures in
    sym (slot_in_entry c.self.view_is c.self.invariant c.args.place c.locate-segment.result.0 c.locate-segment.result.1 _ _ at.number at.bound at.offset c.index-entries-segment.is c.in-None.is)
