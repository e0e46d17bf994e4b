-- What is read of a long input decides its script.
use Rattle.std.proofs.Common.{◌≡◌, ℕ, List, take, Option, Some, None, Result, ap, subst, ◌∙◌}
use Rattle.std.specs.Prelude.{IfSome}
use Rattle.script_core.specs.declared.error.ScriptError.{ScriptError}
use Rattle.script_core.specs.declared.script.Script.{Script}
use Rattle.script_core.specs.Grammar.{script_of}
use Rattle.script_core.specs.Laws.{DecidedByPrefix}

-- what holds of the script of the bytes that were read holds of the script of the whole input
pub of_take : DecidedByPrefix → (P : Result Script ScriptError → Type 0) (known : Option (List ℕ)) (bytes : List ℕ)
    → IfSome known (λ input. bytes ≡ take 1048577 input) → P (script_of bytes)
    → IfSome known (λ input. P (script_of input))
of_take decided P None bytes read holds = tt
of_take decided P (Some input) bytes read holds = subst P (ap script_of read ∙ decided input) holds
