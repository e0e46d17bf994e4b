use Rattle.std.proofs.Common.{refl, arith}
use Rattle.grow_core.specs.Vector.{layout_of}
use Rattle.grow_core.proofs.Entries.{rises}
use Rattle.grow_core.proofs.vector.Shared.scout_row.Goals as goal

pub scout_entry-requires : goal.scout_entry-requires
scout_entry-requires g c =
    (omega arith, (c.requires.ours, (c.requires.within, (refl, omega (arith, rises (layout_of c.args.self.now) c.args.segment)))))
