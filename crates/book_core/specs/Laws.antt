-- What holds of every legal history, by the table of events alone.
use Rattle.std.specs.Prelude.{◌≡◌, ◌≤◌, ◌+◌, ◌↔◌, ◌⊎◌, ℕ, List, [], ◌∷◌, ◌++◌, length, Some, slice_get}
use Rattle.std.specs.List.{Contains}
use Rattle.book_core.specs.declared.cells.Cell.TheVariants.{Pending, Filled, Broken}
use Rattle.book_core.specs.declared.events.Event.{Event}
use Rattle.book_core.specs.declared.events.Event.TheVariants.{Claim, Finish, Break, Mend, Look}
use Rattle.book_core.specs.declared.events.Reply.{Reply}
use Rattle.book_core.specs.declared.events.Reply.TheVariants as replies
use Rattle.book_core.specs.Cells.{CellList, apply_event, with_cell, with_pending, empty_list}
use Rattle.book_core.specs.Events.{finishers_of}
use Rattle.book_core.specs.History.{IsHistory, OwnedRun, runs_of, Tile, owner_of, writes_of}

-- a history in two parts is two histories, one after the other
abbrev pub HistoriesSplit : Type 0
HistoriesSplit =
    (old new : CellList) (es fs : List (Event × Reply)) → IsHistory old (es ++ fs) new
    ↔ ((mid : CellList) × IsHistory old es mid × IsHistory mid fs new)

-- the runs of a history in two parts are those of the first, and then those of the second
abbrev pub RunsSplit : Type 0
RunsSplit = (es fs : List (Event × Reply)) → runs_of (es ++ fs) ≡ runs_of es ++ runs_of fs

-- a run ends before any run that is claimed later begins
abbrev pub RunsAreApart : Type 0
RunsAreApart =
    (old mid new : CellList) (es fs : List (Event × Reply)) (run later : OwnedRun) → IsHistory old es mid
    → IsHistory mid fs new
    → Contains (runs_of es) run → Contains (runs_of fs) later → run.from + run.n ≤ later.from

-- what was done at a place in a history in two parts is what was done in the first, and then what was done in
-- the second
abbrev pub WritesSplit : Type 0
WritesSplit =
    (place : ℕ) (es fs : List (Event × Reply)) → writes_of place (es ++ fs) ≡ writes_of place es ++ writes_of place fs

-- a claim up to the limit is legal, and appends its places as pending ones
abbrev pub ClaimsAppend : Type 0
ClaimsAppend =
    (old : CellList) (actor n : ℕ) → length old.cells + n ≤ old.limit
    → apply_event old (Claim actor n) ≡ Some (with_pending old actor n, replies.Run (length old.cells) n)

-- the owner of a pending cell may fill it
abbrev pub OwnersFill : Type 0
OwnersFill =
    (old : CellList) (actor place value : ℕ) → slice_get old.cells place ≡ Some (Pending actor)
    → apply_event old (Finish actor place value) ≡ Some (with_cell old place (Filled value), replies.Done)

-- or break it
abbrev pub OwnersBreak : Type 0
OwnersBreak =
    (old : CellList) (actor place : ℕ) → slice_get old.cells place ≡ Some (Pending actor)
    → apply_event old (Break actor place) ≡ Some (with_cell old place Broken, replies.Done)

-- anyone may mend a broken cell, which is pending for it from then on
abbrev pub AnyoneMends : Type 0
AnyoneMends =
    (old : CellList) (actor place : ℕ) → slice_get old.cells place ≡ Some Broken
    → apply_event old (Mend actor place) ≡ Some (with_cell old place (Pending actor), replies.Done)

-- the runs of a history tile the places that it appends
abbrev pub HistoriesTile : Type 0
HistoriesTile =
    (old new : CellList) (es : List (Event × Reply)) → IsHistory old es new
    → Tile (length old.cells) (runs_of es) (length new.cells)

-- a filled cell stays filled with its value
abbrev pub FilledCellsStay : Type 0
FilledCellsStay =
    (old new : CellList) (es : List (Event × Reply)) (place value : ℕ) → IsHistory old es new
    → slice_get old.cells place ≡ Some (Filled value) → slice_get new.cells place ≡ Some (Filled value)

-- a broken cell stays broken until it is mended
abbrev pub BrokenCellsStay : Type 0
BrokenCellsStay =
    (old new : CellList) (es : List (Event × Reply)) (place : ℕ) → IsHistory old es new
    → ((actor : ℕ) → Contains (writes_of place es) (Mend actor place) → ⊥)
    → slice_get old.cells place ≡ Some Broken → slice_get new.cells place ≡ Some Broken

-- The actor may finish the place, by what was done there: it owns the place and nothing was done there, or it
-- was the last to mend it.
abbrev pub IsItsToFinish : List (Event × Reply) → ℕ → ℕ → List Event → Type 0
IsItsToFinish es place actor writes =
    ((owner_of (runs_of es) place ≡ Some actor) × (writes ≡ []))
    ⊎ ((before : List Event) × (writes ≡ before ++ Mend actor place ∷ []))

-- one actor filled the place with this value, when it was its to finish; nothing was done there since, and
-- nobody else filled it
pub record IsFilledOnce (es : List (Event × Reply)) (place value : ℕ) : Type 0 where
  pub writer : ℕ
  pub filled : Contains es (Finish writer place value, replies.Done)
  pub before : List Event
  pub last : writes_of place es ≡ before ++ Finish writer place value ∷ []
  pub its : IsItsToFinish es place writer before
  pub once : finishers_of (writes_of place es) ≡ writer ∷ []

-- a cell that holds a value was filled with it once, by the owner of its place, or by its mender
abbrev pub ValuesHaveOneWriter : Type 0
ValuesHaveOneWriter =
    (limit : ℕ) (new : CellList) (es : List (Event × Reply)) (place value : ℕ) → IsHistory (empty_list limit) es new
    → slice_get new.cells place ≡ Some (Filled value) → IsFilledOnce es place value

-- so was a value that a look showed, before that look
abbrev pub LooksTellTheWritersValue : Type 0
LooksTellTheWritersValue =
    (limit : ℕ) (new : CellList) (es rest : List (Event × Reply)) (actor place value : ℕ)
    → IsHistory (empty_list limit) (es ++ (Look actor place, replies.Value value) ∷ rest) new
    → IsFilledOnce es place value

-- a place that an event of a history filled holds that value at its end
abbrev pub FinishesFill : Type 0
FinishesFill =
    (old new : CellList) (es : List (Event × Reply)) (actor place value : ℕ) → IsHistory old es new
    → Contains es (Finish actor place value, replies.Done) → slice_get new.cells place ≡ Some (Filled value)
