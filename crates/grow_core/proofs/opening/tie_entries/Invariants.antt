use Rattle.std.specs.Prelude.{◌≡◌}
use Rattle.grow_core.specs.Opening.{IsOpening}
use Rattle.grow_core.proofs.opening.tie_entries.Given as goal

abbrev pub invariant-loop-segment : goal.invariant-loop-segment
invariant-loop-segment g l =
    IsOpening l.word l.claims l.table l.keys l.list.row l.list.count l.cells.tie l.tags l.segment
    × (l.claims ≡ record l.fn.claims { laid = l.claims.laid }) × (l.table.layout ≡ l.fn.table.layout)
