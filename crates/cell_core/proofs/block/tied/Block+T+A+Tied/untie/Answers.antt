use Rattle.std.proofs.Common.{◌<◌, sym, subst}
use Rattle.cell_core.specs.Block.{BlockView, block_len, cell_at}
use Rattle.cell_core.specs.Slot.{cell_in}
use Rattle.cell_core.specs.Member.{IsUntied}
use Rattle.cell_core.proofs.Untied.{untied_at}
use Rattle.cell_core.proofs.block.tied.Block+T+A+Tied.untie.Goals as goal

pub returns-clause-each : goal.returns-clause-each
returns-clause-each g c i near = subst (λ (b : BlockView). IsUntied (cell_at b i) (cell_in c.untie.new.self.cells i)) c.self.view_is
    (untied_at c.self.inside.laid.cells c.untie.new.self.cells c.untie.ensures.2 i (subst (λ (b : BlockView). i < block_len b) (sym c.self.view_is) near))
