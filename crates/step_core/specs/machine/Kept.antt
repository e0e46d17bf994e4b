-- What a reader finds at a filled place, it finds there from then on; what it finds at a broken one, until it
-- is mended.
use Rattle.std.specs.Prelude.{◌≡◌, ℕ, List, Some, slice_get}
use Rattle.std.specs.List.{Contains}
use Rattle.book_core.specs.declared.cells.Cell.TheVariants.{Filled, Broken}
use Rattle.book_core.specs.declared.events.Event.TheVariants.{Mend}
use Rattle.book_core.specs.declared.commands.Command.{Command}
use Rattle.book_core.specs.declared.commands.Item.{Item}
use Rattle.seg_core.specs.Segment.{IsLayout, IsLimit}
use Rattle.book_core.specs.History.{writes_of}
use Rattle.step_core.specs.machine.Play.{Play, after_items, play_of, played_of}

-- a place that is filled has its value after every further item
abbrev pub FilledCellsAreKept : Play → Type 0
FilledCellsAreKept p =
    (more : List Item) (place value : ℕ)
    → slice_get (played_of p).cells place ≡ Some (Filled value)
    → slice_get (played_of (after_items p more)).cells place ≡ Some (Filled value)

-- a place that is broken is broken after every further item, until somebody mends it
abbrev pub BrokenCellsAreKept : Play → Type 0
BrokenCellsAreKept p =
    (more : List Item) (place : ℕ)
    → ((actor : ℕ) → Contains (writes_of place (after_items p more).events) (Mend actor place) → ⊥)
    → slice_get (played_of p).cells place ≡ Some Broken
    → slice_get (played_of (after_items p more)).cells place ≡ Some Broken

-- so it is with the filled places of every play
abbrev pub EveryPlayKeepsFilledCells : Type 0
EveryPlayKeepsFilledCells =
    (f : ℕ) → IsLayout f → (limit : ℕ) (programs : List (List Command)) (items : List Item) → IsLimit limit
    → FilledCellsAreKept (play_of f limit programs items)

-- and with its broken places
abbrev pub EveryPlayKeepsBrokenCells : Type 0
EveryPlayKeepsBrokenCells =
    (f : ℕ) → IsLayout f → (limit : ℕ) (programs : List (List Command)) (items : List Item) → IsLimit limit
    → BrokenCellsAreKept (play_of f limit programs items)
