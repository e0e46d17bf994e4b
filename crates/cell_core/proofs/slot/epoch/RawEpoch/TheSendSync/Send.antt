use denote.Param.Send.{IsSend}
use Rattle.cell_core.proofs.CellSent as sent
use Rattle.cell_core.specs.contracts.slot.epoch.RawEpoch.{the_row}

pub send : IsSend the_row
send = sent.epoch_send
