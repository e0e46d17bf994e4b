use denote.RattleType.{RattleType}
use denote.Param.Send.{IsSend, IsSync}
use Rattle.table_core.specs.declared.entry.steps.Measured.{Ghosts}
use Rattle.table_core.specs.contracts.entry.steps.Entry.{the_row}
use Rattle.table_core.proofs.Sent.{entry_sync}

pub sync : (T : RattleType) (g : Ghosts T.Denot) → IsSend T → IsSync T → IsSync (the_row T g)
sync = entry_sync
