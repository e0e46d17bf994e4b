use Rattle.std.proofs.Common.{subst, sym}
use mathlib.Core.List.{IsPrefix}
use Rattle.grow_core.proofs.KeyRows.{keyed_sees}
use Rattle.grow_core.proofs.Entries.{rows_of_both, rows_of_other}
use Rattle.grow_core.proofs.vector.Shared.meet.Goals as goal

pub invariant_of-a : goal.invariant_of-a
invariant_of-a g c =
    let met = c.meet.ensures in
    let old = c.a.inside.claims in let new = c.meet.new.a in let keys = c.a.inside.keys in (
      keyed_sees old new keys keys c.laws.ensures.below c.a.invariant.0 c.a.invariant.0.keys (λ _ _ has. has) c.own_places_stay.ensures met.own met.begins,
      rows_of_both old c.b.inside.claims new met.cells met.own.of keys c.a.invariant.1,
    )

pub invariant_of-b : goal.invariant_of-b
invariant_of-b g c =
    let met = c.meet.ensures in
    let seen = subst (λ s. IsPrefix c.b.inside.claims.seen s) (sym met.same) met.also_begins in
    let old = c.b.inside.claims in let new = c.meet.new.b in let keys = c.b.inside.keys in (
      keyed_sees old new keys keys c.laws-2.ensures.below c.b.invariant.0 c.b.invariant.0.keys (λ _ _ has. has) c.own_places_stay.ensures met.also_own seen,
      rows_of_other c.a.inside.claims old new met.also_cells met.also_own.of keys c.b.invariant.1,
    )
