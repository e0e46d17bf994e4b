use Rattle.cell_core.proofs.Moulds.{row_tied, row_run, mould_row, row_mould_tied, row_seat}
use Rattle.cell_core.proofs.NewTies.{row_are_ties}
use Rattle.cell_core.proofs.block.tied.Block+T+A+Tied.ties_laws.Goals as goal

pub returns-clause-row : goal.returns-clause-row
returns-clause-row g c t n i tied less = row_tied t n c.args.self.now.cells tied i less

pub returns-clause-mould : goal.returns-clause-mould
returns-clause-mould g c t n tied = mould_row t n c.args.self.now.cells tied

pub returns-clause-tied : goal.returns-clause-tied
returns-clause-tied g c t n mould = row_mould_tied t n c.args.self.now.cells mould

pub returns-clause-run : goal.returns-clause-run
returns-clause-run g c t m offset n tied near = row_run t m c.args.self.now.cells tied offset n near

pub returns-clause-last : goal.returns-clause-last
returns-clause-last g c t n tied some = row_seat t n c.args.self.now.cells tied some

pub returns-clause-ties : goal.returns-clause-ties
returns-clause-ties g c t n = row_are_ties t n
