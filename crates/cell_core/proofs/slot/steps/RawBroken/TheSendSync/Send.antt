use denote.Param.Send.{IsSend}
use Rattle.cell_core.proofs.CellSent as sent
use Rattle.cell_core.specs.contracts.slot.steps.RawBroken.{the_row}

pub send : IsSend the_row
send = sent.broken_send
