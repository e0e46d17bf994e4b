use denote.RattleType.{RattleType}
use denote.Param.Send.{IsSend}
use Rattle.atomic_table.specs.declared.shared.TableRule.{Ghosts}
use Rattle.tie_core.specs.contracts.desk.Desk.{the_row}
use Rattle.tie_core.proofs.DeskSent.{desk_keyless}

pub send : (S V K P : RattleType) (g : Ghosts P.Denot S.Denot V.Denot K.Denot) → IsSend S → IsSend (the_row S V K P g)
send S V K P g s = record { owned = λ d vs. ((λ vss. (tt, ((λ uss. (tt, tt)), tt))), desk_keyless S s V.coded.code (g.holds d.key) d.words d.table_id d.floor); leaving = λ k f vs. tt }
