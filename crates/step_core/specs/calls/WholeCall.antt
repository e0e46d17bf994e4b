-- Whole calls on the sequential vector: the events of each, and how it ends.
use Rattle.std.specs.Prelude.{◌≡◌, ℕ, ◌+◌, ◌-◌, nat_le, if◌then◌else◌, List, [], ◌∷◌, ◌++◌, length, Option, Some, None, slice_get}
use Rattle.book_core.specs.declared.cells.Cell.{Cell}
use Rattle.book_core.specs.declared.cells.Cell.TheVariants as cells
use Rattle.book_core.specs.declared.events.Event.{Event}
use Rattle.book_core.specs.declared.events.Event.TheVariants.{Claim, Raise, Finish, Mend, Look, Size, RefusedFull}
use Rattle.book_core.specs.declared.commands.Command.{Command}
use Rattle.book_core.specs.declared.commands.Command.TheVariants as commands
use Rattle.book_core.specs.declared.commands.Answer.{Answer}
use Rattle.book_core.specs.declared.commands.Answer.TheVariants as answers
use Rattle.book_core.specs.Cells.{CellList}
use Rattle.book_core.specs.Events.{finishes, breaks}
use Rattle.step_core.specs.declared.calls.whole_call.WholeCall.{WholeCall as MadeCall}

-- a call that nothing comes between: its events in order, and how it ends
pub record WholeCall : Type 0 where
  pub events : List Event
  pub answer : Answer

-- a growth by n that would pass the limit
abbrev pub refused : CellList → ℕ → ℕ → WholeCall
refused v actor n = record { events = RefusedFull actor n ∷ []; answer = answers.Full (length v.cells) }

-- how a read ends, by the cell at its place
abbrev pub answer_of_look : ℕ → Option Cell → Answer
answer_of_look size (Some (cells.Pending owner)) = answers.Pending
answer_of_look size (Some (cells.Filled value)) = answers.Value value
answer_of_look size (Some cells.Broken) = answers.Broken
answer_of_look size None = answers.OutOfRange size

-- the actor takes a broken place, and fills it
abbrev pub mended : ℕ → ℕ → ℕ → WholeCall
mended actor place value =
    record { events = Mend actor place ∷ Finish actor place value ∷ []; answer = answers.At place }

-- a read of a place, by the cell there
abbrev pub looked : CellList → ℕ → ℕ → Option Cell → WholeCall
looked v actor place cell = record { events = Look actor place ∷ []; answer = answer_of_look (length v.cells) cell }

-- a mend of a place, by the cell there: a place that is not broken is read
abbrev pub mend_on : CellList → ℕ → ℕ → ℕ → Option Cell → WholeCall
mend_on v actor place value (Some (cells.Pending owner)) = looked v actor place (Some (cells.Pending owner))
mend_on v actor place value (Some (cells.Filled held)) = looked v actor place (Some (cells.Filled held))
mend_on v actor place value (Some cells.Broken) = mended actor place value
mend_on v actor place value None = looked v actor place None

-- The table of whole calls, on the list as it is when the call begins.
abbrev pub call_on : CellList → ℕ → Command → WholeCall
call_on v actor (commands.Push value) =
    if nat_le (length v.cells + 1) v.limit
    then record {
      events = Claim actor 1 ∷ finishes actor (length v.cells) 1 value;
      answer = answers.At (length v.cells);
    }
    else refused v actor 1
call_on v actor (commands.Grow n value) =
    if nat_le (length v.cells + n) v.limit
    then record {
      events = Claim actor n ∷ finishes actor (length v.cells) n value;
      answer = answers.Run (length v.cells) n;
    }
    else refused v actor n
call_on v actor (commands.AtLeast to value) =
    if nat_le to (length v.cells)
    then record { events = Raise actor to ∷ []; answer = answers.Enough (length v.cells) }
    else if nat_le to v.limit
    then record {
      events = Raise actor to ∷ finishes actor (length v.cells) (to - length v.cells) value;
      answer = answers.Run (length v.cells) (to - length v.cells);
    }
    else refused v actor (to - length v.cells)
call_on v actor (commands.Fail n value at) =
    if nat_le (length v.cells + n) v.limit
    then record {
      events = Claim actor n ∷
          (finishes actor (length v.cells) at value ++ breaks actor (length v.cells + at) (n - at));
      answer = answers.BrokenRun (length v.cells) n at;
    }
    else refused v actor n
call_on v actor (commands.Mend place value) = mend_on v actor place value (slice_get v.cells place)
call_on v actor (commands.Read place) = looked v actor place (slice_get v.cells place)
call_on v actor commands.Size = record { events = Size actor ∷ []; answer = answers.Size (length v.cells) }

-- a call as the program makes it has these events and this answer
abbrev pub Is : WholeCall → MadeCall → Type 0
Is call made = (made.events.items ≡ call.events) × (made.answer ≡ call.answer)
