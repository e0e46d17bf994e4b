use Rattle.std.proofs.Common.{◌≡◌, ℕ, List, Some, sym, ap, ◌∙◌}
use Rattle.cell_core.specs.Block.{block_len, cell_at}
use Rattle.cell_core.specs.Mould.{first_seat, mould_of, row_mould}
use Rattle.cell_core.specs.Slot.{Names, AreTied}
use Rattle.table_core.specs.Table.{IsTiedBlockOf}
use Rattle.tie_core.specs.Tie.{Tie, row_of, tie_further, tie_numbered}
use Rattle.memory_tests.proofs.ties.entries.find_cell.Goals as goal

pub returns-in-Some-clause-within : goal.returns-in-Some-clause-within
returns-in-Some-clause-within c =
    let of : IsTiedBlockOf c.args.segments.now c.args.segment c.in-Some.block.now = rw c.in-Some.is at c.scout_for-visit.ensures.block in
    c.requires.offset (block_len c.in-Some.block.now) of.length

pub returns-in-Some-clause-tie : goal.returns-in-Some-clause-tie
returns-in-Some-clause-tie c =
    let of : IsTiedBlockOf c.args.segments.now c.args.segment c.in-Some.block.now = rw c.in-Some.is at c.scout_for-visit.ensures.block in
    let n : ℕ = block_len c.in-Some.block.now in
    let cells : List Names = c.in-Some.block.now.cells in
    let t : Tie = c.args.cells.now.tie in
    let first : Tie = tie_numbered t (first_seat cells) in
    let mould : mould_of cells ≡ row_mould t n = of.mould ∙ c.requires.tied.mould n of.length in
    let row : AreTied (row_of first n) cells = c.ties_laws.ensures.tied t n mould in
    let here : (cell_at c.in-Some.block.now c.args.offset).tied ≡ Some (tie_further first c.args.offset) = c.ties_laws.ensures.row first n c.args.offset row (c.requires.offset n of.length) in
    let same : c.further.result.tie ≡ tie_further first c.args.offset = c.further.ensures.tie ∙ ap (λ (u : Tie). tie_further u c.args.offset) c.numbered.ensures.tie in
    (here ∙ ap (λ (u : Tie). Some u) (sym same), c.further.ensures.table _ _ (c.numbered.ensures.table _ _ c.requires.cells))
