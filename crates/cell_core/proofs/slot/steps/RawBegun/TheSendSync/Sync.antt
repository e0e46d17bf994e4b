use denote.Param.Send.{IsSync, part_keyless}
use Rattle.cell_core.specs.contracts.slot.steps.RawBegun.{the_row}
use Rattle.cell_core.proofs.slot.steps.RawBegun.TheSendSync.Send.{send}

pub sync : IsSync the_row
sync = record { shared = λ d b o κ q. part_keyless the_row send q d b o }
