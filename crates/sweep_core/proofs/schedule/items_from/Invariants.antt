use Rattle.std.proofs.Common.{◌≡◌, ◌++◌, ◌-◌}
use Rattle.sweep_core.specs.Sweep.{items_from}
use Rattle.sweep_core.proofs.schedule.items_from.Given as goal

abbrev pub invariant-loop-more : goal.invariant-loop-more
invariant-loop-more l = l.items.items ++ items_from (l.len - l._more) l.words ≡ items_from l.fn.len l.fn.words
