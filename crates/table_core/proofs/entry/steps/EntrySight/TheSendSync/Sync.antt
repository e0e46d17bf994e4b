use denote.RattleType.{RattleType}
use denote.Param.Send.{IsSync}
use Rattle.table_core.proofs.Sent as sent
use Rattle.table_core.specs.contracts.entry.steps.EntrySight.{the_row}

pub sync : (T : RattleType) → IsSync (the_row T)
sync = sent.sight_sync
