use Rattle.cell_core.proofs.PlainCells.{plain_in, plain_run, plain_each}
use Rattle.cell_core.proofs.block.Block.plain_laws.Goals as goal

pub returns-clause-each : goal.returns-clause-each
returns-clause-each g c plain i = plain_in c.args.self.now.cells plain i

pub returns-clause-run : goal.returns-clause-run
returns-clause-run g c plain n i = plain_run n i c.args.self.now.cells (plain_in c.args.self.now.cells plain)

pub returns-clause-all : goal.returns-clause-all
returns-clause-all g c each = plain_each c.args.self.now.cells each
