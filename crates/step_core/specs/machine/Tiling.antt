-- What holds of the places, the segments and the runs of every play.
use Rattle.std.specs.Prelude.{◌≡◌, ℕ, ◌+◌, ◌<◌, ◌≤◌, ◌↔◌, ◌⊎◌, true, List, [], ◌∷◌, Option, Some, None, slice_get}
use Rattle.std.specs.FinMap.{get}
use Rattle.std.specs.FinSet as set
use Rattle.seg_core.specs.Segment.{segment_of}
use Rattle.book_core.specs.declared.events.Event.{Event}
use Rattle.book_core.specs.declared.events.Event.TheVariants.{Finish, Break, Mend}
use Rattle.book_core.specs.declared.commands.Command.{Command}
use Rattle.book_core.specs.declared.commands.Item.{Item}
use Rattle.seg_core.specs.Segment.{IsLayout, IsLimit}
use Rattle.book_core.specs.History.{runs_of, owner_of, writes_of, Tile}
use Rattle.book_core.specs.Laws.{IsItsToFinish}
use Rattle.step_core.specs.declared.machine.phase.CellSlot.{CellSlot}
use Rattle.step_core.specs.declared.machine.phase.CellSlot.TheVariants.{Busy, Filled, Broken}
use Rattle.step_core.specs.declared.machine.phase.Phase.{Phase}
use Rattle.step_core.specs.declared.machine.phase.Phase.TheVariants as phases
use Rattle.step_core.specs.declared.machine.phase.Actor.{Actor}
use Rattle.step_core.specs.machine.Step.{Configuration}
use Rattle.step_core.specs.machine.Play.{Play, play_of}

-- the slot is empty or busy: a reader sees the place as pending
abbrev pub IsUnfinished : Option CellSlot → Type 0
IsUnfinished None = Unit {0}
IsUnfinished (Some (Busy actor)) = Unit {0}
IsUnfinished (Some (Filled value)) = ⊥
IsUnfinished (Some Broken) = ⊥

-- the slot is empty, or busy for this actor
abbrev pub IsUnfinishedFor : ℕ → Option CellSlot → Type 0
IsUnfinishedFor actor None = Unit {0}
IsUnfinishedFor actor (Some (Busy other)) = other ≡ actor
IsUnfinishedFor actor (Some (Filled value)) = ⊥
IsUnfinishedFor actor (Some Broken) = ⊥

-- the place is one of the run that the actor of this phase has won, or the one that it has mended
abbrev pub IsWonOrMended : Phase → ℕ → Type 0
IsWonOrMended phases.Load q = ⊥
IsWonOrMended (phases.Scout from n segment) q = ⊥
IsWonOrMended (phases.Put from n segment) q = ⊥
IsWonOrMended (phases.Exchange from n) q = ⊥
IsWonOrMended (phases.Raise to) q = ⊥
IsWonOrMended (phases.Begin from n place) q = (from ≤ q) × (q < from + n)
IsWonOrMended (phases.Fill from n place) q = (from ≤ q) × (q < from + n)
IsWonOrMended (phases.Spoil from n place) q = (from ≤ q) × (q < from + n)
IsWonOrMended (phases.Mend place) q = ⊥
IsWonOrMended (phases.FillMended place) q = q ≡ place
IsWonOrMended (phases.Look place) q = ⊥

-- the actor owes the place: it is of the run that it has won, and the actor has neither filled nor broken it;
-- or the actor has mended it, and not filled it
pub record Owes (c : Configuration) (actor place : ℕ) : Type 0 where
  pub state : Actor
  pub there : slice_get c.actors actor ≡ Some state
  pub its : IsWonOrMended state.phase place
  pub unfinished : IsUnfinishedFor actor (get c.storage.slots place)

-- the runs of the history tile the claimed places
abbrev pub RunsTile : Play → Type 0
RunsTile p = Tile 0 (runs_of p.events) p.at.storage.size

-- each claimed place has an owner
abbrev pub PlacesAreOwned : Play → Type 0
PlacesAreOwned p =
    (place : ℕ) → place < p.at.storage.size → (owner : ℕ) × (owner_of (runs_of p.events) place ≡ Some owner)

-- what was done at a place, in order: its owner's Finish; or its owner's Break, then at most one Mend, and
-- then at most a Finish by its mender
abbrev pub IsWrittenFor : ℕ → ℕ → List Event → Type 0
IsWrittenFor owner place events =
    ((value : ℕ) × (events ≡ Finish owner place value ∷ []))
    ⊎ ((events ≡ Break owner place ∷ [])
    ⊎ (((mender : ℕ) × (events ≡ Break owner place ∷ Mend mender place ∷ []))
    ⊎ ((mender : ℕ) × (value : ℕ) × (events ≡ Break owner place ∷ Mend mender place ∷ Finish mender place value ∷ []))))

-- nothing was done at a place, or it has an owner, who filled it; or who broke it, and then at most one actor
-- mended it, and that one may have filled it
abbrev pub FilledOnce : Play → Type 0
FilledOnce p =
    (place : ℕ) → (writes_of place p.events ≡ [])
    ⊎ ((owner : ℕ) × (owner_of (runs_of p.events) place ≡ Some owner)
    × IsWrittenFor owner place (writes_of place p.events))

-- every segment that has a claimed place is installed
abbrev pub SegmentsAreThere : Play → Type 0
SegmentsAreThere p =
    (place : ℕ) → place < p.at.storage.size
    → set.contains p.at.storage.installed (segment_of p.at.storage.layout place) ≡ true

-- an actor that is about to begin a place finds its slot empty
abbrev pub BeginsMeetEmptySlots : Play → Type 0
BeginsMeetEmptySlots p =
    (actor : ℕ) (state : Actor) (from n place : ℕ) → slice_get p.at.actors actor ≡ Some state
    → state.phase ≡ phases.Begin from n place → get p.at.storage.slots place ≡ None

-- no place is owed by two actors
abbrev pub DebtsAreApart : Play → Type 0
DebtsAreApart p = (a b place : ℕ) → Owes p.at a place → Owes p.at b place → a ≡ b

-- the owed places are the claimed places that are pending
abbrev pub DebtsArePending : Play → Type 0
DebtsArePending p =
    (place : ℕ) → ((place < p.at.storage.size) × IsUnfinished (get p.at.storage.slots place)) ↔
    ((actor : ℕ) × Owes p.at actor place)

-- an actor owes exactly the places that the history leaves it to finish: it owns them, and nothing was done
-- there; or their last write is its Mend
abbrev pub DebtsAreOfHistory : Play → Type 0
DebtsAreOfHistory p =
    (actor place : ℕ) → Owes p.at actor place ↔ IsItsToFinish p.events place actor (writes_of place p.events)

-- all of it holds of a play
pub record IsTiled (p : Play) : Type 0 where
  pub runs_tile : RunsTile p
  pub owned : PlacesAreOwned p
  pub filled_once : FilledOnce p
  pub segments_there : SegmentsAreThere p
  pub begins_empty : BeginsMeetEmptySlots p
  pub debts_apart : DebtsAreApart p
  pub debts_pending : DebtsArePending p
  pub debts_of_history : DebtsAreOfHistory p

-- all of it holds of every play: any layout, any limit, any programs, any schedule, with any marks of memory
abbrev pub EveryPlayIsTiled : Type 0
EveryPlayIsTiled =
    (f : ℕ) → IsLayout f → (limit : ℕ) (programs : List (List Command)) (items : List Item) → IsLimit limit
    → IsTiled (play_of f limit programs items)
