use Rattle.std.proofs.Common.{◌+◌, ◌*◌, ◌/◌, ◌<◌, ◌≤◌, arith}
use Rattle.span_core.proofs.SegmentLemmas.{next_is_own}
use Rattle.span_core.proofs.segments.WorkerCellsIterator.next.Goals as goal

pub invariant_of-self : goal.invariant_of-self
invariant_of-self g c =
    let own = c.self.invariant in
    let cells = c.cells-cells.ensures in
    let len = c.len.ensures.value in
    let end = c.min.ensures in
    let some = cells.some in
    let within = cells.within in
    let after : c.self.inside.place < c.self.inside.place + c.len.result = omega arith in
    let bound : c.self.inside.place + c.len.result ≤ c.self.inside.place / 4096 * 4096 + 4096 = omega arith in
    (own.0, own.1, next_is_own c.self.inside.workers c.self.inside.worker c.self.inside.place (c.self.inside.place + c.len.result) _ own.0 own.2 after bound c.next_place-self-inside.ensures)
