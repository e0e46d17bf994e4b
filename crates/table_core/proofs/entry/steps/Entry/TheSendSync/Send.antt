use denote.RattleType.{RattleType}
use denote.Param.Send.{IsSend}
use Rattle.table_core.specs.declared.entry.steps.Measured.{Ghosts}
use Rattle.table_core.specs.contracts.entry.steps.Entry.{the_row}
use Rattle.table_core.proofs.Sent.{entry_send}

pub send : (T : RattleType) (g : Ghosts T.Denot) → IsSend T → IsSend (the_row T g)
send = entry_send
