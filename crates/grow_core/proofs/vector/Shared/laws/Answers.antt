use Rattle.grow_core.proofs.FirstPlaces.{begins_as_opened}
use Rattle.grow_core.proofs.vector.Shared.laws.Goals as goal

pub returns-clause-first : goal.returns-clause-first
returns-clause-first g c = begins_as_opened c.first_places_are_told.ensures c.self.invariant c.self.view_is
