use denote.RattleType.{RattleType}
use denote.Param.Send.{IsSend, IsSync, sendable}
use denote.Struct.Struct.{Struct}
use denote.Struct.Owning.{shape}
use Rattle.atomic_table.specs.declared.shared.TableRule.{Ghosts}
use Rattle.tie_core.specs.contracts.desk.Desk.{the_row, the_type}
use Rattle.tie_core.proofs.DeskSent.{desk_keyless}

pub sync : (S V K P : RattleType) (g : Ghosts P.Denot S.Denot V.Denot K.Denot) → IsSend S → IsSync (the_row S V K P g)
sync S V K P g s = let fields : IsSync (Struct (shape (the_type S V K P g))) = search sendable depth 20 in
    record { shared = λ d b o ν. (fields.shared (tt, tt) b o ν, desk_keyless S s V.coded.code (g.holds d.key) d.words d.table_id d.floor) }
