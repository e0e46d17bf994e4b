-- By how the cells are tied.
use Rattle.memory_tests.proofs.StepsOpened.{cell_tie}
use Rattle.memory_tests.proofs.opened.steps.tag_at.Goals as goal

pub returns-clause-cell : goal.returns-clause-cell
returns-clause-cell c =
    cell_tie c.args.tag.now.tie c.further.result.tie c.args.cells.now c.args.place c.ties_laws.ensures.row c.requires.ties c.further.ensures.tie
    c.requires.within
