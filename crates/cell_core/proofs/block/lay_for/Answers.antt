use Rattle.std.proofs.Common.{rules, arith, length-drop}
use Rattle.std.proofs.lemmas.Grind.{common_steps}
use Rattle.cell_core.proofs.PlainCells.{first_more}
use Rattle.cell_core.proofs.block.lay_for.Goals as goal

pub words-preserved : goal.words-preserved
words-preserved g c =
    let have = first_more c.args.seats.ties c.words.seats.ties c.words.laid.cells c.min-cells.result c.push_for-seats.new.self.cells c.words.invariant.9 c.push_for-seats.ensures.1 in
    let few = length-drop c.min-cells.result c.words.seats.ties in
    first_of (search (rules, have, few), grind (arith, common_steps, have, few))
