use Rattle.grow_core.specs.Grown.{GrownView, IsInOrder}
use Rattle.std.proofs.Common.{subst}
use Rattle.grow_core.proofs.KnownPlaces.{known_in_order}
use Rattle.grow_core.proofs.grown.Grown.in_order.Goals as goal

pub returns : goal.returns
returns g c = let own = c.self.inside in
    subst (λ (s : GrownView g.row.T.Denot). IsInOrder s.run s.tokens) c.self.view_is (known_in_order own.filled.keys own.run own.filled.row c.self.invariant)
