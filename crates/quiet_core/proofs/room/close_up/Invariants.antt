use Rattle.std.proofs.Common.{◌≡◌}
use Rattle.std.specs.Prelude.{is_some}
use Rattle.std.proofs.lemmas.List.Filters.{FiltersInPlace}
use Rattle.quiet_core.proofs.room.close_up.Given as goal

abbrev pub invariant-loop-place : goal.invariant-loop-place
invariant-loop-place g l =
    FiltersInPlace is_some l.initial.parts.members l.parts.members l.values l.place
    × (l.parts ≡ record l.initial.parts { members = l.parts.members; closed = l.parts.closed })
