use denote.RattleType.{RattleType}
use denote.Param.Send.{IsSync}
use Rattle.cell_core.proofs.CellSent as sent
use Rattle.cell_core.specs.contracts.slot.member.RawRow.{the_row}

pub sync : (T : RattleType) → IsSync (the_row T)
sync = sent.row_sync
