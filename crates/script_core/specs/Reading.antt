-- What the parts of the reader return: only its own functions and proofs cite these.
use Rattle.std.specs.Prelude.{◌≡◌, ℕ, ◌<◌, true, false, List, [], ◌∷◌, length, drop, Result, Ok, Err}
use Rattle.script_core.specs.declared.command.Words.{Words}
use Rattle.script_core.specs.declared.command.Words.TheVariants.{One, Two, Three, Four, More}
use Rattle.script_core.specs.declared.error.Fault.{Fault}
use Rattle.script_core.specs.declared.error.ScriptError.{ScriptError}
use Rattle.script_core.specs.declared.error.ScriptError.TheVariants.{NoMemory}
use Rattle.script_core.specs.declared.error.Stop.{Stop}
use Rattle.script_core.specs.declared.error.Stop.TheVariants as stops
use Rattle.script_core.specs.declared.lines.LineKind.{LineKind}
use Rattle.script_core.specs.declared.lines.LineKind.TheVariants.{Actor, Items, Other}
use Rattle.script_core.specs.Grammar.{is_actor_line, is_items_line}
use Rattle.script_core.specs.ScriptError.{error_at}

-- these are all the words, or there are more than a command may have
abbrev pub AreWords : List (List ℕ) → Words → Type 0
AreWords list (One a) = list ≡ a.now ∷ []
AreWords list (Two a b) = list ≡ a.now ∷ b.now ∷ []
AreWords list (Three a b c) = list ≡ a.now ∷ b.now ∷ c.now ∷ []
AreWords list (Four a b c d) = list ≡ a.now ∷ b.now ∷ c.now ∷ d.now ∷ []
AreWords list More = 4 < length list

-- the line is of this kind, and has these bytes after its word
abbrev pub IsKind : List ℕ → LineKind → Type 0
IsKind line (Actor text) = (is_actor_line line ≡ true) × (text.now ≡ drop 6 line)
IsKind line (Items text) = (is_actor_line line ≡ false) × (is_items_line line ≡ true) × (text.now ≡ drop 5 line)
IsKind line Other = (is_actor_line line ≡ false) × (is_items_line line ≡ false)

-- out of memory, or a fault with its line
abbrev pub script_error : ℕ → Stop → ScriptError
script_error line stops.Memory = NoMemory
script_error line (stops.Fault fault) = error_at line fault

-- what the reader of a part of a line returned is what the grammar gives, unless it was out of memory
abbrev pub Gives : {X : Type 0} → Result X Stop → Result X Fault → Type 0
Gives (Ok x) given = given ≡ Ok x
Gives (Err stops.Memory) given = Unit {0}
Gives (Err (stops.Fault fault)) given = given ≡ Err fault

-- what the reader of lines returned is what the grammar gives, unless it was out of memory
abbrev pub GivesLines : {X : Type 0} → Result X ScriptError → Result X ScriptError → Type 0
GivesLines (Ok x) given = given ≡ Ok x
GivesLines (Err e) given = (e ≡ NoMemory → ⊥) → given ≡ Err e
