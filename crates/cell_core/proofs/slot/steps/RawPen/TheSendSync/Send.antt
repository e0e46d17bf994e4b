use denote.RattleType.{RattleType}
use denote.Ref.{NamedLft}
use denote.Param.Send.{IsSend, IsSync}
use Rattle.cell_core.proofs.CellSent as sent
use Rattle.cell_core.specs.contracts.slot.steps.RawPen.{the_row}

pub send : (a : NamedLft) (T : RattleType) → IsSend T → IsSync T → IsSend (the_row a T)
send = sent.pen_send
