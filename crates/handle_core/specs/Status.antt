-- The number of a status, and when each comes.
use Rattle.std.specs.Prelude.{◌≡◌, ℕ, ℤ, pos}
use Rattle.handle_core.specs.declared.status.Status.{Status}
use Rattle.handle_core.specs.declared.status.Status.TheVariants as status

-- the call did what it was asked
abbrev pub IsDone : ℤ → Type 0
IsDone code = code ≡ pos 0

-- the number of a status, as in include/kehldora.h
abbrev pub number_of : Status → ℕ
number_of status.NoMemory = 1
number_of status.BadLimit = 2
number_of status.Moved = 3
number_of status.BadHandle = 4
number_of status.BadNumber = 5
number_of status.NotWhole = 6
number_of status.BadSize = 7
number_of status.OutOfRange = 8
number_of status.Pending = 9
number_of status.Broken = 10
number_of status.Full = 11
number_of status.Taken = 12
number_of status.Filled = 13
number_of status.OtherVector = 14

-- if the number is that of a call that did what it was asked, this is true
pub record IfDone (code : ℤ) (says : Type 0) : Type 0 where
  pub done : IsDone code → says

-- if the number is that of a status, this is true of the status
pub record IfRefused (code : ℤ) (says : Status → Type 0) : Type 0 where
  pub due : (why : Status) → code ≡ pos (number_of why) → says why
