use Rattle.std.proofs.Common.{◌≡◌}
use Rattle.grow_core.specs.Stretch.{values_from}
use Rattle.grow_core.proofs.copy_run.write_from.Given as goal

abbrev pub invariant-loop-i : goal.invariant-loop-i
invariant-loop-i g l =
    (l.pen.offset ≡ l.fn.pen.offset) × (l.pen.cells ≡ l.fn.pen.cells) × (l.pen.values ≡ values_from (g.S.Source.values l.source) l.first l.i)
