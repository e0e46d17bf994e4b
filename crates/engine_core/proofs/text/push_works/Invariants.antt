-- the text has the lines of the calls so far
use Rattle.std.proofs.Common.{◌≡◌, ◌++◌, take}
use Rattle.std.specs.List.{flat_map}
use Rattle.engine_core.specs.Output.{work_line_in}
use Rattle.engine_core.proofs.text.push_works.Given as goal

abbrev pub invariant-loop-work : goal.invariant-loop-work
invariant-loop-work l = l.text.items ≡ l.fn.text.items ++ flat_map (work_line_in l.names) (take l.work-index l.works)
