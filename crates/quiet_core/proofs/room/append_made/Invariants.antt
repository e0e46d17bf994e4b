use Rattle.std.proofs.Common.{◌≡◌, ◌++◌, List, Some, length, map}
use Rattle.grow_core.specs.Making.{Makes}
use Rattle.quiet_core.proofs.room.append_made.Given as goal

abbrev pub invariant-loop-i : goal.invariant-loop-i
invariant-loop-i g l =
    ((values : List g.row.T.Denot) × Makes (goal.F-step g) l.fn.make values l.make × (length values ≡ l.i)
    × (l.parts.members ≡ l.initial.parts.members ++ map Some values))
    × (l.parts ≡ record l.initial.parts { members = l.parts.members; closed = l.parts.closed })
    × goal.F-IsAlwaysCallable g l.make
