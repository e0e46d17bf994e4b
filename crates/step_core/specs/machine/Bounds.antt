-- The numbers of a phase stay within the limit, and what it wants is what its command wants.
use Rattle.std.specs.Prelude.{◌≡◌, ℕ, ◌+◌, ◌<◌, ◌≤◌, IfSome, All, slice_get}
use Rattle.book_core.specs.declared.commands.Command.{Command}
use Rattle.book_core.specs.declared.commands.Command.TheVariants as commands
use Rattle.step_core.specs.declared.machine.phase.Phase.{Phase}
use Rattle.step_core.specs.declared.machine.phase.Phase.TheVariants.{Load, Scout, Put, Exchange, Raise, Begin, Fill, Spoil, Mend, FillMended, Look}
use Rattle.step_core.specs.declared.machine.phase.Next.{Next}
use Rattle.step_core.specs.declared.machine.phase.Next.TheVariants.{Goes, Ends}
use Rattle.step_core.specs.declared.machine.storage.StepOutcome.{StepOutcome as Given}
use Rattle.step_core.specs.machine.Storage.{Storage}
use Rattle.step_core.specs.declared.machine.phase.Actor.{Actor}
use Rattle.seg_core.specs.Segment.{IsLayout, segment_count, IsLimit}
use Rattle.step_core.specs.machine.Step.{Outcome, Configuration}

-- a growth to at least a size wants the places up to it
abbrev pub Wants : Command → ℕ → ℕ → Type 0
Wants (commands.Push value) from n = Unit {0}
Wants (commands.Grow m value) from n = Unit {0}
Wants (commands.AtLeast to value) from n = from + n ≡ to
Wants (commands.Fail m value at) from n = Unit {0}
Wants (commands.Mend place value) from n = Unit {0}
Wants (commands.Read place) from n = Unit {0}
Wants commands.Size from n = Unit {0}

-- a growth to at least a size claims by a raise; no other call does
abbrev pub Exchanges : Command → Type 0
Exchanges (commands.Push value) = Unit {0}
Exchanges (commands.Grow m value) = Unit {0}
Exchanges (commands.AtLeast to value) = ⊥
Exchanges (commands.Fail m value at) = Unit {0}
Exchanges (commands.Mend place value) = Unit {0}
Exchanges (commands.Read place) = Unit {0}
Exchanges commands.Size = Unit {0}

-- the actor's phase is within the limit
abbrev pub IsWithin : ℕ → ℕ → Command → Phase → Type 0
IsWithin f limit command Load = Unit {0}
IsWithin f limit command (Scout from n segment) =
    (0 < n) × (from + n ≤ limit) × (segment < segment_count f) × Wants command from n
IsWithin f limit command (Put from n segment) =
    (0 < n) × (from + n ≤ limit) × (segment < segment_count f) × Wants command from n
IsWithin f limit command (Exchange from n) = (0 < n) × (from + n ≤ limit) × Exchanges command
IsWithin f limit command (Raise to) = to ≤ limit
IsWithin f limit command (Begin from n place) = (from ≤ place) × (place < from + n) × (from + n ≤ limit)
IsWithin f limit command (Fill from n place) = (from ≤ place) × (place < from + n) × (from + n ≤ limit)
IsWithin f limit command (Spoil from n place) = (from ≤ place) × (place < from + n) × (from + n ≤ limit)
IsWithin f limit command (Mend place) = place < limit
IsWithin f limit command (FillMended place) = place < limit
IsWithin f limit command (Look place) = Unit {0}

-- if an actor goes on, it stays within the limit
abbrev pub StaysWithin : ℕ → ℕ → Command → Next → Type 0
StaysWithin f limit command (Goes phase) = IsWithin f limit command phase
StaysWithin f limit command (Ends answer) = Unit {0}

-- an outcome: what is left, and what is given
abbrev pub given : Storage → Given → Outcome
given m outcome = record { storage = m; event = outcome.event; next = outcome.next }

-- an actor with a call under way is within the limit
abbrev pub IsPlaced : ℕ → ℕ → Actor → Type 0
IsPlaced f limit state = IfSome (slice_get state.program state.ended) (λ command. IsWithin f limit command state.phase)

-- so do all actors, and the size; and the segments are those of a layout
abbrev pub IsInLimit : Configuration → Type 0
IsInLimit c =
    IsLimit c.limit × (c.storage.size ≤ c.limit) × All (λ state. IsPlaced c.storage.layout c.limit state) c.actors
    × IsLayout c.storage.layout
