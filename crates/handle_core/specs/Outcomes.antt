-- The status of each refusal of the crates below.
use Rattle.std.specs.Prelude.{Bool, true, false}
use Rattle.grow_core.specs.declared.errors.GrowError.{GrowError}
use Rattle.grow_core.specs.declared.errors.GrowError.TheVariants as grow
use Rattle.grow_core.specs.declared.errors.AtError.{AtError}
use Rattle.grow_core.specs.declared.errors.AtError.TheVariants as at
use Rattle.grow_core.specs.declared.errors.MendError.{MendError}
use Rattle.grow_core.specs.declared.errors.MendError.TheVariants as mend
use Rattle.grow_core.specs.declared.errors.ReserveError.{ReserveError}
use Rattle.grow_core.specs.declared.errors.ReserveError.TheVariants as reserve
use Rattle.quiet_core.specs.declared.errors.QuietAt.{QuietAt}
use Rattle.quiet_core.specs.declared.errors.QuietAt.TheVariants as quiet
use Rattle.handle_core.specs.declared.status.Status.{Status}
use Rattle.handle_core.specs.declared.status.Status.TheVariants as status

-- of a growth: no maker of this library refuses a value
abbrev pub growth_status : {T V E : Type 0} → GrowError T V E → Status
growth_status (grow.NoMemory back) = status.NoMemory
growth_status (grow.Full size back) = status.Full
growth_status (grow.Moved size back) = status.Moved
growth_status (grow.Refused run made cause) = status.Taken
growth_status (grow.Taken place found) = status.Taken

-- of a read
abbrev pub read_status : AtError → Status
read_status (at.OutOfRange size) = status.OutOfRange
read_status at.Pending = status.Pending
read_status (at.Broken spoilt) = status.Broken

-- of a mend
abbrev pub mend_status : {T : Type 0} → MendError T → Status
mend_status (mend.OutOfRange size) = status.OutOfRange
mend_status mend.Pending = status.Pending
mend_status (mend.Filled placed) = status.Filled

-- of a call for room
abbrev pub reserve_status : ReserveError → Status
reserve_status reserve.NoMemory = status.NoMemory
reserve_status reserve.TooLong = status.Full

-- of a read of a member
abbrev pub member_status : QuietAt → Status
member_status (quiet.OutOfRange size) = status.OutOfRange
member_status quiet.Broken = status.Broken

-- of a vector that was not closed, by whether its hand has all shares
abbrev pub close_status : Bool → Status
close_status true = status.Taken
close_status false = status.NotWhole
