-- How refusals are shown.
use Rattle.std.specs.Prelude.{ℕ, List, ◌++◌, codes, decimal}
use Rattle.grow_core.specs.declared.errors.GrowError.{GrowError}
use Rattle.grow_core.specs.declared.errors.GrowError.TheVariants.{NoMemory, Full, Moved, Refused, Taken}
use Rattle.grow_core.specs.declared.errors.AtError.{AtError}
use Rattle.grow_core.specs.declared.errors.AtError.TheVariants.{OutOfRange, Pending, Broken}
use Rattle.grow_core.specs.declared.errors.MendError.{MendError}
use Rattle.grow_core.specs.declared.errors.MendError.TheVariants as mend
use Rattle.grow_core.specs.declared.errors.ReserveError.{ReserveError}
use Rattle.grow_core.specs.declared.errors.ReserveError.TheVariants as reserve

-- why a growth was refused
abbrev pub grow_error_text : {T V E : Type 0} → GrowError T V E → List ℕ
grow_error_text (NoMemory back) = codes "out of memory"
grow_error_text (Full size back) = codes "no room at size " ++ decimal size
grow_error_text (Moved size back) = codes "the size has moved to " ++ decimal size
grow_error_text (Refused run made cause) =
    codes "a value was refused after " ++ decimal made.run.n ++ codes " were made"
grow_error_text (Taken place found) = codes "place " ++ decimal place ++ codes " is taken"

-- why no value was returned
abbrev pub at_error_text : AtError → List ℕ
at_error_text (OutOfRange size) = codes "not below size " ++ decimal size
at_error_text Pending = codes "not filled yet"
at_error_text (Broken spoilt) = codes "broken"

-- why a place was not mended
abbrev pub mend_error_text : {T : Type 0} → MendError T → List ℕ
mend_error_text (mend.OutOfRange size) = codes "not below size " ++ decimal size
mend_error_text mend.Pending = codes "not finished yet"
mend_error_text (mend.Filled placed) = codes "filled"

-- why no room was reserved
abbrev pub reserve_error_text : ReserveError → List ℕ
reserve_error_text reserve.NoMemory = codes "out of memory"
reserve_error_text reserve.TooLong = codes "longer than the limit"
