-- Conditions for playing programs and a schedule.
use Rattle.std.specs.Prelude.{ℕ, ◌<◌, ◌==◌, List, length, filter, All}
use Rattle.book_core.specs.declared.commands.Command.{Command}
use Rattle.book_core.specs.declared.commands.Command.TheVariants.{Push, Grow, AtLeast, Fail, Mend, Read, Size}
use Rattle.book_core.specs.declared.commands.Item.{Item}
use Rattle.book_core.specs.declared.commands.Ended.{Ended}

-- a refused construction is at one of its call's own places
abbrev pub IsSound : Command → Type 0
IsSound (Push value) = Unit {0}
IsSound (Grow n value) = Unit {0}
IsSound (AtLeast to value) = Unit {0}
IsSound (Fail n value at) = at < n
IsSound (Mend place value) = Unit {0}
IsSound (Read place) = Unit {0}
IsSound Size = Unit {0}

-- each command of each program is sound
abbrev pub AreSound : List (List Command) → Type 0
AreSound programs = All (λ program. All IsSound program) programs

-- the most programs that a play may have
abbrev pub most_programs : ℕ
most_programs = 65536

-- each item's actor has a program
abbrev pub HavePrograms : List (List Command) → List Item → Type 0
HavePrograms programs items = All (λ item. item.actor < length programs) items

-- each ended call is of an actor below the count
abbrev pub HaveActors : ℕ → List Ended → Type 0
HaveActors count calls = All (λ ended. ended.actor < count) calls

-- the ended calls of an actor, in the order of their ends
abbrev pub calls_of : ℕ → List Ended → List Ended
calls_of actor calls = filter (λ (ended : Ended). ended.actor == actor) calls
