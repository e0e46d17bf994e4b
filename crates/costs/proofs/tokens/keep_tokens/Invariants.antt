-- In each turn, the tokens are those of places of the vector.
use Rattle.std.specs.List.{All}
use Rattle.grow_core.specs.Vector.{IsPlacedOf}
use Rattle.costs.proofs.tokens.keep_tokens.Given as goal

abbrev pub invariant-loop-i : goal.invariant-loop-i
invariant-loop-i l = All (IsPlacedOf l._vector) l.kept.items
