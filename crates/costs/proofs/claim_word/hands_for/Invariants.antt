-- In each turn, the hand and all hands so far are the word's.
use Rattle.std.specs.List.{All}
use Rattle.claim_core.specs.Hand.{IsHandOf}
use Rattle.costs.proofs.claim_word.hands_for.Given as goal

abbrev pub invariant-loop-thread : goal.invariant-loop-thread
invariant-loop-thread l = IsHandOf l.word l.hand × All (IsHandOf l.word) l.hands.items
