use denote.RattleType.{RattleType}
use denote.Param.Send.{IsSend, IsSync, Frees, sendable}
use denote.Struct.Struct.{Struct}
use denote.Struct.Owning.{shape}
use Rattle.core.specs.declared.alloc.Allocator as Allocator
use Rattle.cell_core.specs.contracts.block.steps.Laid.{the_row, the_type}
use Rattle.cell_core.proofs.CellSent as sent

pub sync : (T A : RattleType) (g : Allocator.Ghosts A.Denot) → IsSend T → IsSend A → IsSync T → Frees g g.dealloc_token
    → IsSync (the_row T A g)
sync T A g s _ y f = let fields : IsSync (Struct (shape (the_type T A g))) = search sendable depth 20 in
    record { shared = λ d b o ν. (fields.shared (tt, tt) b o ν, sent.laid_lent_keyless T s y d.rows d.cells ν) }
