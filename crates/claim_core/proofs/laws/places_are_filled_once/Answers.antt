use Rattle.claim_core.proofs.FillLaws.{filled_places_stay, fills_are_once, fills_have_owners, breaks_have_owners}
use Rattle.claim_core.proofs.laws.places_are_filled_once.Goals as goal

pub returns-clause-stay : goal.returns-clause-stay
returns-clause-stay c = filled_places_stay

pub returns-clause-once : goal.returns-clause-once
returns-clause-once c = fills_are_once

pub returns-clause-owners : goal.returns-clause-owners
returns-clause-owners c = fills_have_owners

pub returns-clause-breakers : goal.returns-clause-breakers
returns-clause-breakers c = breaks_have_owners
