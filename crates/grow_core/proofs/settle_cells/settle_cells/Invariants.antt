use Rattle.std.proofs.Common.{◌≡◌, ◌+◌, ◌-◌, ◌≤◌}
use Rattle.grow_core.specs.Closing.{AreSettled}
use Rattle.grow_core.specs.Parts.{broken_count, values_in}
use Rattle.grow_core.proofs.settle_cells.settle_cells.Given as goal

abbrev pub invariant-stretches : goal.invariant-stretches
invariant-stretches g l =
    (l.done ≤ l.n) × AreSettled l.fn.block l.block l.offset l.opened l.place l.fn.row l.row l.epoch l.done
    × (broken_count (values_in l.row) ≡ broken_count (values_in l.fn.row) + l.broken) × (l.broken ≤ l.done)

abbrev pub decreases-stretches : goal.decreases-stretches
decreases-stretches g l = l.n - l.done
