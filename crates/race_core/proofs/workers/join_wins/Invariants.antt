use Rattle.std.proofs.Common.{◌≡◌, ◌++◌, length}
use Rattle.std.specs.List.{flat_map}
use Rattle.std.specs.Vec.Iter.{into_iter_items, into_iter_len}
use Rattle.race_core.proofs.workers.join_wins.Given as goal

abbrev pub invariant-loop-wins : goal.invariant-loop-wins
invariant-loop-wins l =
    (l.all.items ++ flat_map (λ wins. wins.items) (into_iter_items l.wins-iterator) ≡ flat_map (λ wins. wins.items) l.fn.teams.items)
    × (into_iter_len l.wins-iterator ≡ length (into_iter_items l.wins-iterator))
