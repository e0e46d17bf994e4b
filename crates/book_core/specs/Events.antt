-- Events by themselves: the actor of each, the place that it writes, the event that fills, and the events by
-- which an owner writes several places.
use Rattle.std.specs.Prelude.{ℕ, ◌==◌, if◌then◌else◌, List, [], ◌∷◌, ◌++◌, map}
use Rattle.std.specs.List.{range_with_len}
use Rattle.book_core.specs.declared.events.Event.{Event}
use Rattle.book_core.specs.declared.events.Event.TheVariants.{Claim, Raise, Finish, Break, Mend, Look, Size, RefusedFull, RefusedMemory}

-- the actor of an event
abbrev pub actor_of : Event → ℕ
actor_of (Claim actor n) = actor
actor_of (Raise actor to) = actor
actor_of (Finish actor place value) = actor
actor_of (Break actor place) = actor
actor_of (Mend actor place) = actor
actor_of (Look actor place) = actor
actor_of (Size actor) = actor
actor_of (RefusedFull actor n) = actor
actor_of (RefusedMemory actor) = actor

-- the event, if it fills, breaks or mends this place
abbrev pub write_in : ℕ → Event → List Event
write_in place (Claim actor n) = []
write_in place (Raise actor to) = []
write_in place (Finish actor at value) = if at == place then Finish actor at value ∷ [] else []
write_in place (Break actor at) = if at == place then Break actor at ∷ [] else []
write_in place (Mend actor at) = if at == place then Mend actor at ∷ [] else []
write_in place (Look actor at) = []
write_in place (Size actor) = []
write_in place (RefusedFull actor n) = []
write_in place (RefusedMemory actor) = []

-- the actor of an event that fills a place
abbrev pub finisher_in : Event → List ℕ
finisher_in (Claim actor n) = []
finisher_in (Raise actor to) = []
finisher_in (Finish actor place value) = actor ∷ []
finisher_in (Break actor place) = []
finisher_in (Mend actor place) = []
finisher_in (Look actor place) = []
finisher_in (Size actor) = []
finisher_in (RefusedFull actor n) = []
finisher_in (RefusedMemory actor) = []

-- the actors that fill places by these events, in their order
abbrev pub finishers_of : List Event → List ℕ
finishers_of [] = []
finishers_of (event ∷ events) = finisher_in event ++ finishers_of events

-- the actor fills n places from one on with a value, in ascending order
abbrev pub finishes : ℕ → ℕ → ℕ → ℕ → List Event
finishes actor from n value = map (λ place. Finish actor place value) (range_with_len from n)

-- the actor breaks n places from one on, in ascending order
abbrev pub breaks : ℕ → ℕ → ℕ → List Event
breaks actor from n = map (λ place. Break actor place) (range_with_len from n)
