-- Plays of the machine: the fold of its steps over a schedule, and its slots as a reader sees them.
use Rattle.std.specs.Prelude.{◌≡◌, ℕ, ◌++◌, List, [], ◌∷◌, map, Option, Some, None, unwrap_or, refl}
use Rattle.std.specs.Coded.{Coded, code_by, coded×, coded_list}
use Rattle.std.specs.Option.{option_to_list}
use Rattle.std.specs.List.{range_with_len}
use Rattle.std.specs.FinMap.{get}
use Rattle.book_core.specs.declared.cells.Cell.{Cell}
use Rattle.book_core.specs.declared.cells.Cell.TheVariants as cells
use Rattle.book_core.specs.declared.events.Event.{Event}
use Rattle.book_core.specs.declared.events.Reply.{Reply}
use Rattle.book_core.specs.declared.commands.Command.{Command}
use Rattle.book_core.specs.declared.commands.Item.{Item}
use Rattle.book_core.specs.declared.commands.Ended.{Ended}
use Rattle.book_core.specs.History.{OwnedRun, runs_of, owner_of}
use Rattle.step_core.specs.declared.machine.phase.CellSlot.{CellSlot}
use Rattle.step_core.specs.declared.machine.phase.CellSlot.TheVariants.{Busy, Filled, Broken}
use Rattle.step_core.specs.declared.programs.Played.{Played}
use Rattle.step_core.specs.machine.Storage.{Storage}
use Rattle.step_core.specs.machine.Step.{Configuration, configuration_code, Step, step_of, first_configuration}
use Rattle.book_core.specs.contracts.events.Event as event
use Rattle.book_core.specs.contracts.events.Reply as reply
use Rattle.book_core.specs.contracts.commands.Ended as ended

-- a play so far: the configuration, the events with their replies, and the ended calls, both in order
pub record Play : Type 0 where
  pub at : Configuration
  pub events : List (Event × Reply)
  pub ended : List Ended

-- it is stored as its fields
abbrev pub play_code : Coded Play
play_code =
    code_by (Configuration × (List (Event × Reply) × List Ended))
    (coded× configuration_code
    (coded× (coded_list (coded× event.the_row.coded reply.the_row.coded)) (coded_list ended.the_row.coded)))
    (λ p. (p.at, (p.events, p.ended)))
    (λ p. record { at = p.0; events = p.1.0; ended = p.1.1 })
    (λ _. refl)

-- before the first item
abbrev pub empty_play : ℕ → ℕ → List (List Command) → Play
empty_play f limit programs = record { at = first_configuration f limit programs; events = []; ended = [] }

-- with what one step leaves and gives
abbrev pub with_step : Play → Step → Play
with_step p step = record {
  at = step.to;
  events = p.events ++ option_to_list step.event;
  ended = p.ended ++ option_to_list step.ended;
}

-- each item is one step of its actor
abbrev pub after_items : Play → List Item → Play
after_items p [] = p
after_items p (item ∷ items) = after_items (with_step p (step_of p.at item.actor item.memory)) items

-- the play of a schedule, in segments of a layout
abbrev pub play_of : ℕ → ℕ → List (List Command) → List Item → Play
play_of f limit programs items = after_items (empty_play f limit programs) items

-- a place as a reader sees it: a busy slot is pending for the actor that is writing it, and an empty one for
-- the place's owner
abbrev pub cell_of : Option ℕ → Option CellSlot → Cell
cell_of owner (Some (Filled value)) = cells.Filled value
cell_of owner (Some Broken) = cells.Broken
cell_of owner (Some (Busy actor)) = cells.Pending actor
cell_of owner None = cells.Pending (unwrap_or owner 0)

-- the claimed places as a reader sees them, in order
abbrev pub cells_of : Storage → List OwnedRun → List Cell
cells_of m runs = map (λ place. cell_of (owner_of runs place) (get m.slots place)) (range_with_len 0 m.size)

-- what a play shows: its events, its ended calls and its cells; what its calls took is counted separately
abbrev pub played_of : Play → Played
played_of p = record { events = p.events; ended = p.ended; cells = cells_of p.at.storage (runs_of p.events); work = [] }

-- The play of an added item is one further step of its configuration: so a machine that is moved by the steps
-- of a schedule is in the configuration of its play.
abbrev pub PlaysGoOnByAStep : Type 0
PlaysGoOnByAStep =
    (f limit : ℕ) (programs : List (List Command)) (items : List Item) (item : Item)
    → play_of f limit programs (items ++ item ∷ [])
    ≡ with_step (play_of f limit programs items) (step_of (play_of f limit programs items).at item.actor item.memory)

-- the play of no items is at the first configuration
abbrev pub PlaysBeginAtTheFirst : Type 0
PlaysBeginAtTheFirst =
    (f limit : ℕ) (programs : List (List Command))
    → (play_of f limit programs []).at ≡ first_configuration f limit programs

-- no step changes the layout
abbrev pub PlaysKeepTheLayout : Type 0
PlaysKeepTheLayout =
    (f limit : ℕ) (programs : List (List Command)) (items : List Item)
    → (play_of f limit programs items).at.storage.layout ≡ f
