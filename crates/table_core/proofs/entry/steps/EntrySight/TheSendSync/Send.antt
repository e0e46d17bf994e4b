use denote.RattleType.{RattleType}
use denote.Param.Send.{IsSend}
use Rattle.table_core.proofs.Sent as sent
use Rattle.table_core.specs.contracts.entry.steps.EntrySight.{the_row}

pub send : (T : RattleType) → IsSend (the_row T)
send = sent.sight_send
