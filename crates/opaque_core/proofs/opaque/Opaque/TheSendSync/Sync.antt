-- A `&` holds nothing.
use denote.RattleType.{RattleType}
use denote.Param.Send.{IsSync}
use Rattle.opaque_core.specs.contracts.opaque.Opaque.{the_row}

pub sync : (N : RattleType) → IsSync (the_row N)
sync N = record { shared = λ d b o κ. tt }
