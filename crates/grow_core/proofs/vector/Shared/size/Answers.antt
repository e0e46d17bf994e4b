use Rattle.grow_core.proofs.KeyRows.{keyed_sees}
use Rattle.grow_core.proofs.Works.{rows_kept}
use Rattle.grow_core.proofs.vector.Shared.size.Goals as goal

pub invariant_of-hand : goal.invariant_of-hand
invariant_of-hand g c =
    let seen = c.size.ensures.seen in
    let old = c.hand.inside.claims in let new = c.size.new.hand in let keys = c.hand.inside.keys in (
      keyed_sees old new keys keys c.laws-2.ensures.below c.hand.invariant.0 c.hand.invariant.0.keys (λ _ _ has. has) c.own_places_stay.ensures seen.own seen.seen,
      rows_kept old new seen.own.of c.size.ensures.cells.rows keys c.hand.invariant.1,
    )
