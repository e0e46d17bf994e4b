use denote.Param.Send.{IsSync}
use Rattle.cell_core.proofs.CellSent as sent
use Rattle.cell_core.specs.contracts.slot.steps.RawBroken.{the_row}

pub sync : IsSync the_row
sync = sent.broken_sync
