use Rattle.std.proofs.Common.{◌∙◌}
use Rattle.grow_core.proofs.Broken.{part_more}
use Rattle.grow_core.proofs.slices.part_of.Goals as goal

pub loop-i-preserved : goal.loop-i-preserved
loop-i-preserved g c =
    c.push.ensures ∙ part_more c.args.row.now c.args.place c.loop-i.i c.at-known.result c.loop-i.part c.loop-i.invariant c.at-known.ensures
