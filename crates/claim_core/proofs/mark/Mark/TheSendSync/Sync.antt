use denote.Param.Send.{IsSync, part_keyless}
use Rattle.claim_core.specs.contracts.mark.Mark.{the_row}
use Rattle.claim_core.proofs.mark.Mark.TheSendSync.Send.{send}

pub sync : IsSync the_row
sync = record { shared = λ d b o κ q. part_keyless the_row send q d b o }
