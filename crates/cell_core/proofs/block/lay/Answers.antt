use Rattle.std.proofs.Common.{rules, arith}
use Rattle.std.proofs.lemmas.Grind.{common_steps}
use Rattle.cell_core.proofs.PlainCells.{more_kind}
use Rattle.cell_core.proofs.block.lay.Goals as goal

-- the cells of one more word are not tied either
pub words-preserved : goal.words-preserved
words-preserved g c =
    let kind = more_kind c.words.laid.cells c.min-cells.result c.push.new.self.cells c.push.ensures.1 c.words.invariant.9 in
    first_of (search (rules, kind), grind (arith, common_steps, kind))
