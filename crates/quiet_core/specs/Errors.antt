-- How refusals are shown.
use Rattle.std.specs.Prelude.{ℕ, List, ◌++◌, codes, decimal}
use Rattle.quiet_core.specs.declared.errors.QuietError.{QuietError}
use Rattle.quiet_core.specs.declared.errors.QuietError.TheVariants.{NoMemory, TooLong, Refused}
use Rattle.quiet_core.specs.declared.errors.QuietAt.{QuietAt}
use Rattle.quiet_core.specs.declared.errors.QuietAt.TheVariants.{OutOfRange, Broken}
use Rattle.quiet_core.specs.declared.errors.QuietMendError.{QuietMendError}
use Rattle.quiet_core.specs.declared.errors.QuietMendError.TheVariants as mend
use Rattle.quiet_core.specs.declared.errors.IntoVecError.{IntoVecError}
use Rattle.quiet_core.specs.declared.errors.IntoVecError.TheVariants as into

-- why the list did not grow
abbrev pub quiet_error_text : QuietError → List ℕ
quiet_error_text NoMemory = codes "out of memory"
quiet_error_text TooLong = codes "longer than the limit"
quiet_error_text (Refused made) = codes "a value was refused after " ++ decimal made ++ codes " were made"

-- why a place has no value to lend
abbrev pub quiet_at_text : QuietAt → List ℕ
quiet_at_text (OutOfRange size) = codes "out of the " ++ decimal size ++ codes " places"
quiet_at_text Broken = codes "broken"

-- why a member was not mended
abbrev pub quiet_mend_error_text : QuietMendError → List ℕ
quiet_mend_error_text (mend.OutOfRange size) = codes "out of the " ++ decimal size ++ codes " places"
quiet_mend_error_text mend.Filled = codes "filled"

-- why a list was not turned into a vector
abbrev pub into_vec_error_text : IntoVecError → List ℕ
into_vec_error_text into.NoMemory = codes "out of memory"
into_vec_error_text (into.Broken place) = codes "broken at place " ++ decimal place
