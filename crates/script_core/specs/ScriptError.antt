-- The faults of a text: their numbers, their lines, and how they are shown.
use Rattle.std.specs.Prelude.{ℕ, List, ◌++◌, Option, Some, None, codes, decimal}
use Rattle.script_core.specs.declared.error.ScriptError.{ScriptError}
use Rattle.script_core.specs.declared.error.ScriptError.TheVariants.{NoMemory, Empty, BadLimit, BadLine, BadName, TwiceNamed, BadCommand, NumberTooLarge, TooMany, NoItems, BadFirst}
use Rattle.script_core.specs.declared.error.Fault.{Fault}
use Rattle.script_core.specs.declared.error.Fault.TheVariants as faults

-- the number of each fault
abbrev pub number_of : ScriptError → ℕ
number_of NoMemory = 1
number_of (Empty line) = 2
number_of (BadLimit line) = 3
number_of (BadLine line) = 4
number_of (BadName line) = 5
number_of (TwiceNamed line) = 6
number_of (BadCommand line) = 7
number_of (NumberTooLarge line) = 8
number_of (TooMany line) = 9
number_of (NoItems line) = 10
number_of (BadFirst line) = 11

-- the line of each fault
abbrev pub line_of : ScriptError → Option ℕ
line_of NoMemory = None
line_of (Empty line) = Some line
line_of (BadLimit line) = Some line
line_of (BadLine line) = Some line
line_of (BadName line) = Some line
line_of (TwiceNamed line) = Some line
line_of (BadCommand line) = Some line
line_of (NumberTooLarge line) = Some line
line_of (TooMany line) = Some line
line_of (NoItems line) = Some line
line_of (BadFirst line) = Some line

-- how a fault of this number is shown, by its line
abbrev text_at : Option ℕ → ℕ → List ℕ
text_at None number = codes "memory"
text_at (Some line) number = codes "line " ++ decimal line ++ codes ": fault " ++ decimal number

-- how a fault is shown
abbrev pub fault_text : ScriptError → List ℕ
fault_text e = text_at (line_of e) (number_of e)

-- a fault of a line, with the line's number
abbrev pub error_at : ℕ → Fault → ScriptError
error_at line faults.BadLimit = BadLimit line
error_at line faults.BadLine = BadLine line
error_at line faults.BadName = BadName line
error_at line faults.TwiceNamed = TwiceNamed line
error_at line faults.BadCommand = BadCommand line
error_at line faults.NumberTooLarge = NumberTooLarge line
error_at line faults.TooMany = TooMany line
error_at line faults.BadFirst = BadFirst line
