-- What users of traces want to know of their rows.
use Rattle.std.specs.Prelude.{◌≡◌, ℕ, List, Some, take, slice_get}
use Rattle.book_core.specs.declared.commands.Command.{Command}
use Rattle.book_core.specs.declared.commands.Item.{Item}
use Rattle.step_core.specs.declared.machine.trace.TracedItem.{TracedItem}
use Rattle.step_core.specs.machine.Play.{play_of}
use Rattle.step_core.specs.machine.Trace.{trace_of}
use Rattle.model_tests.specs.Places.{next_step}

-- a row is of its item's actor, and shows the size after the step that the item takes in the play of those
-- before it
pub record IsRowOf (f limit : ℕ) (programs : List (List Command)) (items : List Item) (i : ℕ) (item : Item)
    : Type 0 where
  pub row : TracedItem
  pub there : slice_get (trace_of f limit programs items) i ≡ Some row
  pub actor : row.actor ≡ item.actor
  pub size : row.size ≡ (next_step (play_of f limit programs (take i items)) item).to.storage.size

-- every item of every schedule has such a row
abbrev pub EveryItemHasItsRow : Type 0
EveryItemHasItsRow =
    (f limit : ℕ) (programs : List (List Command)) (items : List Item) (i : ℕ) (item : Item)
    → slice_get items i ≡ Some item → IsRowOf f limit programs items i item
