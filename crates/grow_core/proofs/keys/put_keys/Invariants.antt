use Rattle.std.proofs.Common.{ℕ, List}
use Rattle.std.specs.Prelude.{IsSome}
use Rattle.grow_core.specs.Keys.{AreKeys, AreOfEither, key_at}
use Rattle.grow_core.proofs.KeyRows.{Walked}
use Rattle.grow_core.proofs.keys.put_keys.Given as goal

abbrev pub invariant-loop-segment : goal.invariant-loop-segment
invariant-loop-segment l =
    Walked (λ segment. IsSome (key_at l.other segment)) l.initial.row l.row l.segment
    × ((mark : List ℕ) → AreKeys mark l.initial.row → AreKeys mark l.other → AreKeys mark l.row)
    × AreOfEither l.initial.row l.other l.row
