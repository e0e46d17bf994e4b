use denote.Param.Send.{IsSync}
use Rattle.cell_core.proofs.CellSent as sent
use Rattle.cell_core.specs.contracts.slot.epoch.RawEnded.{the_row}

pub sync : IsSync the_row
sync = sent.ended_sync
