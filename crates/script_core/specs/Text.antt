-- The lines that are printed, and what a writer holds if one was written in part.
use Rattle.std.specs.Prelude.{ℕ, List, ◌∷◌, ◌++◌, length, take, Option, codes, decimal}
use Rattle.std.specs.Io.KnownBytes.{Appends}
use Rattle.std.specs.List.{flat_map}
use Rattle.book_core.specs.declared.cells.Cell.{Cell}
use Rattle.book_core.specs.declared.cells.Cell.TheVariants as cells
use Rattle.book_core.specs.declared.commands.Command.{Command}
use Rattle.book_core.specs.declared.commands.Command.TheVariants as commands
use Rattle.book_core.specs.declared.commands.Answer.{Answer}
use Rattle.book_core.specs.declared.commands.Answer.TheVariants as answers
use Rattle.book_core.specs.declared.commands.Ended.{Ended}
use Rattle.book_core.specs.declared.commands.Work.{Work}

-- the word of a command
abbrev pub word_of : Command → List ℕ
word_of (commands.Push value) = codes "push"
word_of (commands.Grow n value) = codes "grow"
word_of (commands.AtLeast to value) = codes "atleast"
word_of (commands.Fail n value at) = codes "fail"
word_of (commands.Mend place value) = codes "mend"
word_of (commands.Read place) = codes "read"
word_of commands.Size = codes "size"

-- an answer
abbrev pub answer_text : Answer → List ℕ
answer_text (answers.At place) = codes "at " ++ decimal place
answer_text (answers.Run from n) = codes "run " ++ decimal from ++ codes " " ++ decimal n
answer_text (answers.Enough size) = codes "enough " ++ decimal size
answer_text (answers.BrokenRun from n made) =
    codes "broken " ++ decimal from ++ codes " " ++ decimal n ++ codes " " ++ decimal made
answer_text (answers.Full size) = codes "full " ++ decimal size
answer_text answers.NoMemory = codes "nomemory"
answer_text (answers.Value value) = codes "value " ++ decimal value
answer_text answers.Pending = codes "pending"
answer_text answers.Broken = codes "broken"
answer_text (answers.OutOfRange size) = codes "outofrange " ++ decimal size
answer_text (answers.Size size) = decimal size

-- the answer line of a call that ended: the actor's name with the call's number, the command's word, and the
-- answer
abbrev pub answer_line : ℕ → Ended → List ℕ
answer_line name ended =
    name ∷ decimal ended.number ++ codes " " ++ word_of ended.command ++ codes " " ++ answer_text ended.answer
    ++ codes "\n"

-- the line of what an ended call took: the actor's name with the call's number, its lost exchanges, and its
-- steps
abbrev pub work_line : ℕ → Work → List ℕ
work_line name work =
    name ∷ decimal work.number ++ codes " lost " ++ decimal work.lost ++ codes " steps " ++ decimal work.steps
    ++ codes "\n"

-- a cell
abbrev pub cell_text : Cell → List ℕ
cell_text (cells.Pending actor) = codes "."
cell_text (cells.Filled value) = decimal value
cell_text cells.Broken = codes "x"

-- the last line: the number of cells, and each of them after a space
abbrev pub cells_line : List Cell → List ℕ
cells_line list =
    codes "size " ++ decimal (length list) ++ codes ":" ++ flat_map (λ cell. codes " " ++ cell_text cell) list
    ++ codes "\n"

-- known bytes grow by a prefix of the text
abbrev pub AppendsPrefix : Option (List ℕ) → Option (List ℕ) → List ℕ → Type 0
AppendsPrefix old new text = (n : ℕ) × Appends old new (take n text)
