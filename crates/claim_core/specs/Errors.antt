-- How refusals are shown.
use Rattle.std.specs.Prelude.{ℕ, List, ◌++◌, codes, decimal}
use Rattle.claim_core.specs.declared.word.OpenError.{OpenError}
use Rattle.claim_core.specs.declared.word.OpenError.TheVariants.{NoMemory, BadLimit}
use Rattle.claim_core.specs.declared.run.Moved.{Moved}
use Rattle.claim_core.specs.declared.run.Enough.{Enough}

-- why a word was not opened
abbrev pub open_error_text : OpenError → List ℕ
open_error_text NoMemory = codes "out of memory"
open_error_text BadLimit = codes "the limit is not from 1 to 1099511627776, or the base is above it"

-- a lost exchange, with the size that it found
abbrev pub moved_text : Moved → List ℕ
moved_text moved = codes "the size has moved to " ++ decimal moved.size

-- a raise that was not needed, with the size that it found
abbrev pub enough_text : Enough → List ℕ
enough_text enough = codes "the size is already " ++ decimal enough.size
