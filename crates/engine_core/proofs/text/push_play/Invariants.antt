-- the text has the lines of the calls so far
use Rattle.std.proofs.Common.{◌≡◌, ◌++◌, take}
use Rattle.std.specs.List.{flat_map}
use Rattle.engine_core.specs.Output.{ended_line}
use Rattle.engine_core.proofs.text.push_play.Given as goal

abbrev pub invariant-loop-ended : goal.invariant-loop-ended
invariant-loop-ended l = l.text.items ≡ l.fn.text.items ++ flat_map (ended_line l.names) (take l.ended-index l.played.ended)
