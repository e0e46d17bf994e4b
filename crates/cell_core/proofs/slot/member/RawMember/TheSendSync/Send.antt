use denote.RattleType.{RattleType}
use denote.Param.Send.{IsSend}
use Rattle.cell_core.proofs.CellSent as sent
use Rattle.cell_core.specs.contracts.slot.member.RawMember.{the_row}

pub send : (T : RattleType) → IsSend (the_row T)
send = sent.member_send
