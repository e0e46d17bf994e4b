-- The number of each reason why a run ends without its text, and how it is shown.
use Rattle.std.specs.Prelude.{ℕ, List, codes}
use Rattle.script_core.specs.ScriptError.{fault_text}
use Rattle.engine_core.specs.declared.error.RunError.{RunError}
use Rattle.engine_core.specs.declared.error.RunError.TheVariants.{Script, NoMemory, Read, Write}

-- the number of each
abbrev pub number_of : RunError → ℕ
number_of (Script _) = 1
number_of NoMemory = 2
number_of Read = 3
number_of Write = 4

-- how each is shown
abbrev pub error_text : RunError → List ℕ
error_text (Script fault) = fault_text fault
error_text NoMemory = codes "memory"
error_text Read = codes "read fault"
error_text Write = codes "write fault"
