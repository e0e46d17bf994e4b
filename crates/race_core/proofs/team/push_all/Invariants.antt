use Rattle.std.proofs.Common.{◌≡◌, ℕ}
use Rattle.race_core.specs.Race.{IsTeam, LogsMoreWins, team_of}
use Rattle.race_core.proofs.team.push_all.Given as goal

abbrev pub invariant-loop-value : goal.invariant-loop-value
invariant-loop-value g l =
    (l.hand.of ≡ l.vector.word)
    × (l.hand.of ≡ l.fn.hand.of)
    × (l.hand.shares ≡ l.fn.hand.shares)
    × ((shares : ℕ) → IsTeam l.vector.word shares l.from l.from (team_of l.fn.hand l.fn.wins.items)
    → IsTeam l.vector.word shares l.from l.value (team_of l.hand l.wins.items))
    × LogsMoreWins l.fn.hand l.hand l.fn.wins.items l.wins.items
