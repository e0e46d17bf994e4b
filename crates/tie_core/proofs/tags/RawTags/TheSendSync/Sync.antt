use denote.RattleType.{RattleType}
use denote.Param.Send.{IsSync, sendable}
use denote.Struct.Struct.{Struct}
use denote.Struct.Owning.{shape}
use Rattle.tie_core.specs.declared.visit.Entered.{Ghosts}
use Rattle.tie_core.specs.contracts.tags.RawTags.{the_row, the_type}

pub sync : (V P : RattleType) (g : Ghosts P.Denot V.Denot) → IsSync (the_row V P g)
sync V P g = let fields : IsSync (Struct (shape (the_type V P g))) = search sendable depth 20 in
    record { shared = λ d b o ν. (fields.shared (tt, tt) b o ν, (λ _. tt)) }
