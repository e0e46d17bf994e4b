use Rattle.std.proofs.Common.{refl, arith}
use Rattle.grow_core.specs.Vector.{layout_of}
use Rattle.grow_core.proofs.Entries.{rises}
use Rattle.grow_core.proofs.vector.Shared.learn_row.Goals as goal

pub learn_entry-requires : goal.learn_entry-requires
learn_entry-requires g c =
    (omega arith, (c.requires.ours, (c.requires.key, (refl, omega (arith, rises (layout_of c.args.self.now) c.args.key.now.segment)))))
