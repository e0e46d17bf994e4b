-- What holds of all texts.
use Rattle.std.specs.Prelude.{◌≡◌, ℕ, List, take}
use Rattle.script_core.specs.Grammar.{script_of}

-- the first 1,048,577 bytes of a text are read as the whole text is: as the same script, or with the same
-- first fault
abbrev pub DecidedByPrefix : Type 0
DecidedByPrefix = (text : List ℕ) → script_of (take 1048577 text) ≡ script_of text
