use Rattle.std.proofs.Common.{ap, length, length-append, arith}
use Rattle.std.specs.Vec.Iter.{into_iter_items}
use Rattle.grow_core.proofs.stretch.write_values.Goals as goal

pub write-pen-requires : goal.write-pen-requires
write-pen-requires g c = omega (arith, ap length c.loop.invariant.1, c.requires.cells, c.loop.invariant.4)

pub unreachable-requires : goal.unreachable-requires
unreachable-requires g c =
    let at = c.loop in
    let all = ap length at.invariant.2 in
    omega (arith, all, length-append at.pen.values (into_iter_items at.left), at.invariant.3, at.invariant.4, c.requires.counted, c.requires.enough, c.in-None.ensures.cases)
