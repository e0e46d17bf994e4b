-- The lines of a trace: one for each item of the schedule, in columns of fixed widths.
use Rattle.std.specs.Prelude.{ℕ, ◌+◌, ◌-◌, List, [], ◌∷◌, ◌++◌, length, replicate, Option, Some, None, codes, decimal, slice_index}
use Rattle.book_core.specs.declared.events.Event.{Event}
use Rattle.book_core.specs.declared.events.Event.TheVariants as events
use Rattle.book_core.specs.declared.events.Reply.{Reply}
use Rattle.book_core.specs.declared.events.Reply.TheVariants as replies
use Rattle.script_core.specs.declared.script.Script.{Script}
use Rattle.script_core.specs.Text.{word_of}
use Rattle.step_core.specs.declared.machine.phase.Phase.{Phase}
use Rattle.step_core.specs.declared.machine.phase.Phase.TheVariants.{Load, Scout, Put, Exchange, Raise, Begin, Fill, Spoil, Mend, FillMended, Look}
use Rattle.step_core.specs.declared.machine.trace.Finding.{Finding}
use Rattle.step_core.specs.declared.machine.trace.Finding.TheVariants as findings
use Rattle.step_core.specs.declared.machine.trace.TracedStep.{TracedStep}
use Rattle.step_core.specs.declared.machine.trace.TracedItem.{TracedItem}
use Rattle.step_core.specs.machine.Trace.{trace_of}

-- ---- The texts

-- a step, by the phase that it is of: its name, and the segment or place that it is about
abbrev pub step_text : Phase → List ℕ
step_text Load = codes "Load"
step_text (Scout from n segment) = codes "Scout " ++ decimal segment
step_text (Put from n segment) = codes "Put " ++ decimal segment
step_text (Exchange from n) = codes "Exchange"
step_text (Raise to) = codes "Raise"
step_text (Begin from n place) = codes "Begin " ++ decimal place
step_text (Fill from n place) = codes "Fill " ++ decimal place
step_text (Spoil from n place) = codes "Spoil " ++ decimal place
step_text (Mend place) = codes "Mend " ++ decimal place
step_text (FillMended place) = codes "FillMended " ++ decimal place
step_text (Look place) = codes "Look " ++ decimal place

-- what a step found or did
abbrev pub finding_text : Finding → List ℕ
finding_text findings.Loaded = codes "loaded"
finding_text findings.Installed = codes "installed"
finding_text findings.Missing = codes "missing"
finding_text findings.Refused = codes "refused"
finding_text findings.Won = codes "won"
finding_text findings.Lost = codes "lost"
finding_text findings.Full = codes "full"
finding_text findings.Enough = codes "enough"
finding_text findings.OutOfRange = codes "outofrange"
finding_text findings.Taken = codes "taken"
finding_text findings.Filled = codes "filled"
finding_text findings.Broken = codes "broken"
finding_text findings.Pending = codes "pending"
finding_text findings.Nothing = codes "nothing"

-- an event, without its actor
abbrev pub event_text : Event → List ℕ
event_text (events.Claim actor n) = codes "Claim " ++ decimal n
event_text (events.Raise actor to) = codes "Raise " ++ decimal to
event_text (events.Finish actor place value) = codes "Finish " ++ decimal place ++ codes " " ++ decimal value
event_text (events.Break actor place) = codes "Break " ++ decimal place
event_text (events.Mend actor place) = codes "Mend " ++ decimal place
event_text (events.Look actor place) = codes "Look " ++ decimal place
event_text (events.Size actor) = codes "Size"
event_text (events.RefusedFull actor n) = codes "RefusedFull " ++ decimal n
event_text (events.RefusedMemory actor) = codes "RefusedMemory"

-- a reply
abbrev pub reply_text : Reply → List ℕ
reply_text (replies.Run from n) = codes "Run " ++ decimal from ++ codes " " ++ decimal n
reply_text (replies.Enough size) = codes "Enough " ++ decimal size
reply_text replies.Done = codes "Done"
reply_text (replies.Value value) = codes "Value " ++ decimal value
reply_text replies.Pending = codes "Pending"
reply_text replies.Broken = codes "Broken"
reply_text (replies.OutOfRange size) = codes "OutOfRange " ++ decimal size
reply_text (replies.Size size) = codes "Size " ++ decimal size
reply_text (replies.Full size) = codes "Full " ++ decimal size
reply_text replies.NoMemory = codes "NoMemory"

-- an event with its reply; a step that is no event has a dash
abbrev pub row_text : Option (Event × Reply) → List ℕ
row_text None = codes "-"
row_text (Some row) = event_text row.0 ++ codes ": " ++ reply_text row.1

-- a call: its actor's letter with its number, and its command's word
abbrev pub call_text : ℕ → TracedStep → List ℕ
call_text name step = name ∷ decimal step.number ++ codes " " ++ word_of step.command

-- ---- The columns

-- the widths of all columns but the last: number, call, step, finding, event
abbrev pub number_width : ℕ
number_width = 6

abbrev pub call_width : ℕ
call_width = 13

abbrev pub step_width : ℕ
step_width = 16

abbrev pub finding_width : ℕ
finding_width = 10

abbrev pub event_width : ℕ
event_width = 24

-- a text with spaces up to the width of its column, and one more; a longer text is not cut
abbrev pub column : ℕ → List ℕ → List ℕ
column width text = text ++ replicate (width - length text) 32 ++ codes " "

-- the columns of a step: its call, its name, what it found or did, and its event with the reply
abbrev pub step_columns : ℕ → TracedStep → List ℕ
step_columns name step =
    column call_width (call_text name step) ++ column step_width (step_text step.phase)
    ++ column finding_width (finding_text step.finding) ++ column event_width (row_text step.event)

-- the same columns of an item whose actor has no call left: it changed nothing
abbrev pub idle_columns : ℕ → List ℕ
idle_columns name =
    column call_width (name ∷ []) ++ column step_width (codes "-")
    ++ column finding_width (finding_text findings.Nothing) ++ column event_width (row_text None)

abbrev pub item_columns : ℕ → Option TracedStep → List ℕ
item_columns name (Some step) = step_columns name step
item_columns name None = idle_columns name

-- the last column: the size after the item
abbrev pub size_column : ℕ → List ℕ
size_column size = codes "size " ++ decimal size ++ codes "\n"

-- ---- The lines

-- the line of an item with this number
abbrev pub trace_line : List ℕ → ℕ → TracedItem → List ℕ
trace_line names number item =
    column number_width (decimal number) ++ item_columns (slice_index names item.actor) item.step
    ++ size_column item.size

-- the lines of items, numbered from a number on
abbrev pub trace_lines : List ℕ → ℕ → List TracedItem → List ℕ
trace_lines names number [] = []
trace_lines names number (item ∷ items) = trace_line names number item ++ trace_lines names (number + 1) items

-- the trace of a script's play by atomic steps, in segments of its layout
abbrev pub trace_text : Script → List ℕ
trace_text s = trace_lines s.names 1 (trace_of s.first s.limit s.programs s.items)
