use Rattle.std.proofs.Common.{◌≤◌}
use Rattle.table_core.proofs.table.Table.installed.Given as goal

abbrev pub invariant-loop-segment : goal.invariant-loop-segment
invariant-loop-segment g l = l.count ≤ l.segment
