-- the lines so far, and then those of the items that are left, are all of them
use Rattle.std.proofs.Common.{◌≡◌, ◌+◌, ◌++◌, drop}
use Rattle.step_core.specs.machine.Trace.{trace_from}
use Rattle.engine_core.specs.Trace.{trace_lines}
use Rattle.engine_core.proofs.trace.trace_items.Given as goal

abbrev pub invariant-loop-item : goal.invariant-loop-item
invariant-loop-item l = record {
  number : l.number ≡ l.item-index;
  lines : l.text.items ++ trace_lines l.names (l.number + 1) (trace_from l.machine (drop l.item-index l.items)) ≡ l.fn.text.items ++ trace_lines l.names 1 (trace_from l.fn.machine l.items);
}
