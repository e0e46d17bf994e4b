-- Why the program has not done what it was asked for: its exit status, and its line.
use Rattle.std.specs.Prelude.{◌≡◌, ◌⊎◌, ℕ, List, ◌++◌, Result, Ok, Err, codes}
use Rattle.script_core.specs.declared.error.ScriptError.{ScriptError}
use Rattle.script_core.specs.declared.error.ScriptError.TheVariants as faults
use Rattle.engine_core.specs.declared.error.RunError.{RunError}
use Rattle.engine_core.specs.declared.error.RunError.TheVariants as runs
use Rattle.engine_core.specs.RunError.{error_text}
use Rattle.race_core.specs.declared.refusal.RaceError.{RaceError}
use Rattle.race_core.specs.declared.refusal.RaceError.TheVariants as races
use Rattle.race_core.specs.Race.{IsFreeRefusal}
use Rattle.cvec.specs.declared.error.ProgramError.{ProgramError}
use Rattle.cvec.specs.declared.error.ProgramError.TheVariants.{Run, Race}

-- the exit status if a script is not run, or a text is not written
abbrev pub run_status : RunError → ℕ
run_status (runs.Script fault) = 2
run_status runs.NoMemory = 3
run_status runs.Read = 4
run_status runs.Write = 4

-- the exit status if a race is refused
abbrev pub race_status : RaceError → ℕ
race_status races.NoMemory = 3
race_status races.BadSize = 6
race_status races.Stuck = 6
race_status (races.Grow number) = 6

-- the exit status of each
abbrev pub status_of : ProgramError → ℕ
status_of (Run error) = run_status error
status_of (Race refusal) = race_status refusal

-- how the refusal of a race is shown
abbrev pub race_error_text : RaceError → List ℕ
race_error_text races.NoMemory = codes "memory"
race_error_text races.BadSize = codes "race: fault 2"
race_error_text races.Stuck = codes "race: fault 3"
race_error_text (races.Grow number) = codes "race: fault 4"

-- how each is shown
abbrev pub program_error_text : ProgramError → List ℕ
program_error_text (Run error) = error_text error
program_error_text (Race refusal) = race_error_text refusal

-- its line on standard error
abbrev pub error_line : ProgramError → List ℕ
error_line e = program_error_text e ++ codes "\n"

-- what a fault of a script means
abbrev pub fault_meaning : ScriptError → List ℕ
fault_meaning faults.NoMemory = codes "out of memory"
fault_meaning (faults.Empty line) = codes "there are no bytes"
fault_meaning (faults.BadLimit line) = codes "the limit is not a number, or not from 1 to 65,536"
fault_meaning (faults.BadLine line) = codes "a line is of no kind that is allowed at its position"
fault_meaning (faults.BadName line) =
    codes "a name is not one letter from a to z, or an item names no actor of the script"
fault_meaning (faults.TwiceNamed line) = codes "an earlier actor has the name"
fault_meaning (faults.BadCommand line) =
    codes "a command is unknown, has the wrong number of words, or has an argument that it cannot have"
fault_meaning (faults.NumberTooLarge line) = codes "a number is above 18,446,744,073,709,551,615"
fault_meaning (faults.TooMany line) =
    codes "there are more than 1,048,576 bytes, 16 actors, 1,000 commands of an actor, or 100,000 items"
fault_meaning (faults.NoItems line) = codes "the lines end without an items line"
fault_meaning (faults.BadFirst line) = codes "the layout is not a number, or not from 1 to 8"

-- what the error of a run means
abbrev pub run_meaning : RunError → List ℕ
run_meaning (runs.Script fault) = fault_meaning fault
run_meaning runs.NoMemory = codes "out of memory"
run_meaning runs.Read = codes "standard input failed"
run_meaning runs.Write = codes "standard output failed or took no byte"

-- its line on standard error, and a second one that says what it means
abbrev pub explained_lines : RunError → List ℕ
explained_lines e = error_text e ++ codes "\n" ++ run_meaning e ++ codes "\n"

-- how the program ends that holds a race and has no whole text: its race was refused, or there was no memory
-- for the text, or it was not written
abbrev pub IsRaceEnd : ℕ → ℕ → ProgramError → Type 0
IsRaceEnd workers each (Run error) = (error ≡ runs.NoMemory) ⊎ (error ≡ runs.Write)
IsRaceEnd workers each (Race refusal) = IsFreeRefusal workers each refusal

-- how a run ends: well, or by an error
abbrev pub RunEnd : Type 0
RunEnd = Result (Unit {0}) RunError

-- how the program ends, by how a run ends
abbrev pub by_run : Result (Unit {0}) RunError → Result (Unit {0}) ProgramError
by_run (Ok done) = Ok done
by_run (Err error) = Err (Run error)
