use Rattle.cell_core.proofs.RunFields.{finds_empty}
use Rattle.cell_core.proofs.block.fields.are_empty.Goals as goal

pub returns-else-n-eq-WORD_CELLS : goal.returns-else-n-eq-WORD_CELLS
returns-else-n-eq-WORD_CELLS c = finds_empty c.args.word c.args.n c.args.offset c.requires c.if-n-eq-WORD_CELLS.false
