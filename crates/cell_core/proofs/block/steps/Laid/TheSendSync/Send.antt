use denote.RattleType.{RattleType}
use denote.Param.Send.{IsSend, IsSync, Frees}
use Rattle.core.specs.declared.alloc.Allocator as Allocator
use Rattle.cell_core.specs.contracts.block.steps.Laid.{the_row}
use Rattle.cell_core.proofs.CellSent as sent

pub send : (T A : RattleType) (g : Allocator.Ghosts A.Denot) → IsSend T → IsSend A → IsSync T → Frees g g.dealloc_token
    → IsSend (the_row T A g)
send T A g s _ y f = record { owned = λ d vs. ((λ vss. (tt, ((λ uss. (tt, tt)), tt))), sent.laid_keyless T s y (g.dealloc_token d.heap) (f.frees d.heap) d.rows d.cells); leaving = λ k x vs. tt }
