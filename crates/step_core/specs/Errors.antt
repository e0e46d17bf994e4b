-- How refusals of a play and of a machine are shown.
use Rattle.std.specs.Prelude.{ℕ, List, codes}
use Rattle.step_core.specs.declared.errors.PlayError.{PlayError}
use Rattle.step_core.specs.declared.errors.PlayError.TheVariants as play
use Rattle.step_core.specs.declared.errors.MakeError.{MakeError}
use Rattle.step_core.specs.declared.errors.MakeError.TheVariants as made

-- why a schedule was not played
abbrev pub play_error_text : PlayError → List ℕ
play_error_text play.NoMemory = codes "out of memory"
play_error_text play.BadLimit = codes "the limit is not from 1 to 1099511627776"
play_error_text play.BadCommand = codes "a refused construction is past the end of its call"
play_error_text play.BadActor = codes "an item is of an actor without a program"

-- why a machine was not made
abbrev pub make_error_text : MakeError → List ℕ
make_error_text made.NoMemory = codes "out of memory"
make_error_text made.BadLimit = codes "the limit is not from 1 to 1099511627776"
make_error_text made.BadCommand = codes "a refused construction is past the end of its call"

-- why a schedule was not played whose machine was not made
abbrev pub play_error_of : MakeError → PlayError
play_error_of made.NoMemory = play.NoMemory
play_error_of made.BadLimit = play.BadLimit
play_error_of made.BadCommand = play.BadCommand
