-- The installed segments: what each phase has passed, and where real memory may run out.
use Rattle.std.specs.Prelude.{◌≡◌, ℕ, ◌+◌, ◌<◌, Bool, true, false, All, Some, slice_get}
use Rattle.std.specs.FinSet as set
use Rattle.seg_core.specs.Segment.{segment_start, segment_of}
use Rattle.step_core.specs.declared.machine.phase.Phase.{Phase}
use Rattle.step_core.specs.declared.machine.phase.Phase.TheVariants.{Load, Scout, Put, Exchange, Raise, Begin, Fill, Spoil, Mend, FillMended, Look}
use Rattle.step_core.specs.declared.machine.phase.Actor.{Actor}
use Rattle.step_core.specs.machine.Storage.{Storage}
use Rattle.step_core.specs.machine.Step.{Configuration}

-- in this phase real memory may run out: it is Put of a segment that is not installed, and the mark grants
-- memory
pub record TakesMemory (m : Storage) (phase : Phase) (memory : Bool) : Type 0 where
  pub from : ℕ
  pub n : ℕ
  pub segment : ℕ
  pub at_put : phase ≡ Put from n segment
  pub not_there : set.contains m.installed segment ≡ false
  pub granted : memory ≡ true

-- real memory may run out in this step of an actor: such is its phase
pub record MayRunOut (c : Configuration) (actor : ℕ) (memory : Bool) : Type 0 where
  pub state : Actor
  pub there : slice_get c.actors actor ≡ Some state
  pub takes : TakesMemory c.storage state.phase memory

-- the segment of the place is installed
abbrev pub IsReady : Storage → ℕ → Type 0
IsReady m place = set.contains m.installed (segment_of m.layout place) ≡ true

-- the segments that an actor in this phase has passed are installed
abbrev pub HasPassed : Storage → Phase → Type 0
HasPassed m Load = Unit {0}
HasPassed m (Scout from n segment) = (q : ℕ) → q < segment_start m.layout segment → q < from + n → IsReady m q
HasPassed m (Put from n segment) = (q : ℕ) → q < segment_start m.layout segment → q < from + n → IsReady m q
HasPassed m (Exchange from n) = (q : ℕ) → q < from + n → IsReady m q
HasPassed m (Raise to) = (q : ℕ) → q < to → IsReady m q
HasPassed m (Begin from n place) = (q : ℕ) → q < from + n → IsReady m q
HasPassed m (Fill from n place) = (q : ℕ) → q < from + n → IsReady m q
HasPassed m (Spoil from n place) = (q : ℕ) → q < from + n → IsReady m q
HasPassed m (Mend place) = IsReady m place
HasPassed m (FillMended place) = IsReady m place
HasPassed m (Look place) = Unit {0}

-- the segments of the claimed places are installed, and those that the actors have passed
abbrev pub HasSegments : Configuration → Type 0
HasSegments c =
    ((q : ℕ) → q < c.storage.size → IsReady c.storage q) × All
    (λ (state : Actor). HasPassed c.storage state.phase) c.actors
