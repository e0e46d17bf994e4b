-- this many have been pushed
use Rattle.std.proofs.Common.{◌≡◌, ◌++◌, replicate}
use Rattle.engine_core.proofs.columns.push_spaces.Given as goal

abbrev pub invariant-loop-more : goal.invariant-loop-more
invariant-loop-more l = l.text.items ≡ l.fn.text.items ++ replicate l._more 32
