use Rattle.grow_core.specs.Vector.{IsHandOf}
use Rattle.token_channel.proofs.send_squares.Given as goal

abbrev pub invariant-loop-number : goal.invariant-loop-number
invariant-loop-number g l = IsHandOf l.vector l.hand
