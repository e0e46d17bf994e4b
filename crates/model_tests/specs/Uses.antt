-- What users of plays want to know.
use Rattle.std.specs.Prelude.{◌≡◌, ℕ, ◌+◌, ◌≤◌, List, ◌∷◌, ◌++◌, Some, slice_get}
use Rattle.std.specs.List.{Contains}
use Rattle.book_core.specs.declared.events.Event.{Event}
use Rattle.book_core.specs.declared.events.Event.TheVariants.{Look}
use Rattle.book_core.specs.declared.events.Reply.{Reply}
use Rattle.book_core.specs.declared.events.Reply.TheVariants as replies
use Rattle.book_core.specs.declared.commands.Command.TheVariants.{Read}
use Rattle.book_core.specs.declared.commands.Answer.TheVariants.{At, Value}
use Rattle.book_core.specs.declared.commands.Ended.{Ended}
use Rattle.book_core.specs.History.{OwnedRun, runs_of}
use Rattle.book_core.specs.Laws.{IsFilledOnce}

-- calls that ended at one place are one call
abbrev pub PushesAreApart : List Ended → Type 0
PushesAreApart calls =
    (i j place : ℕ) (a b : Ended) → slice_get calls i ≡ Some a → slice_get calls j ≡ Some b
    → a.answer ≡ At place → b.answer ≡ At place → i ≡ j

-- the look of a read is an event of the history, and before it the place was filled with the value, once, by
-- its owner or by its mender
pub record IsReadOfWriters (events : List (Event × Reply)) (actor place value : ℕ) : Type 0 where
  pub before : List (Event × Reply)
  pub after : List (Event × Reply)
  pub look : events ≡ before ++ (Look actor place, replies.Value value) ∷ after
  pub filled : IsFilledOnce before place value

-- the same holds for every read that found a value
abbrev pub ReadsTellTheWriters : List Ended → List (Event × Reply) → Type 0
ReadsTellTheWriters calls events =
    (i place value : ℕ) (ended : Ended) → slice_get calls i ≡ Some ended → ended.command ≡ Read place
    → ended.answer ≡ Value value → IsReadOfWriters events ended.actor place value

-- wherever a history is cut, what is claimed after the cut lies past all that was claimed before it
abbrev pub LaterRunsLiePast : List (Event × Reply) → Type 0
LaterRunsLiePast events =
    (before after : List (Event × Reply)) (run later : OwnedRun) → events ≡ before ++ after
    → Contains (runs_of before) run → Contains (runs_of after) later → run.from + run.n ≤ later.from
