use Rattle.std.proofs.Common.{◌+◌, ◌-◌, ◌*◌}
use Rattle.span_core.proofs.by_halves.+work_by_halves.Given as goal

abbrev pub decreases-work_unless : goal.decreases-work_unless
decreases-work_unless g l = 5 * l.count + 1

abbrev pub decreases-work_by_halves-call_both+arg3 : goal.decreases-work_by_halves-call_both+arg3
decreases-work_by_halves-call_both+arg3 g l = 5 * l.low + 2

abbrev pub decreases-work_by_halves-call_both+arg5 : goal.decreases-work_by_halves-call_both+arg5
decreases-work_by_halves-call_both+arg5 g l = 5 * l.high + 2

abbrev pub decreases-work_by_halves : goal.decreases-work_by_halves
decreases-work_by_halves g l = 5 * (l.low + l.high) - 1

abbrev pub decreases-fork_join : goal.decreases-fork_join
decreases-fork_join g l = 5 * l.count
