use Rattle.std.proofs.Common.{◌≡◌, ℕ, ◌<◌, sym, ap, ◌∙◌, subst, arith}
use Rattle.std.specs.Prelude.{Some}
use Rattle.tie_core.specs.Run.{run_of}
use Rattle.tie_core.specs.Tie.{Tie, IsTied, tie_further, tie_numbered}
use Rattle.cell_core.specs.Block.{BlockView, block_len}
use Rattle.cell_core.specs.Run.{AreTiedTo, cells_from}
use Rattle.cell_core.specs.Mould.{first_seat}
use Rattle.grow_core.specs.Keys.{mark_of}
use Rattle.grow_core.specs.Ties.{IsCellOf, IsTiedBlock}
use Rattle.grow_core.specs.Vector.{VectorView, layout_of}
use Rattle.grow_core.proofs.TiedCells.{mould_is, layout_is, finds_cell, finds_cells}
use Rattle.grow_core.proofs.vector.Shared.cell_tag.Goals as goal

-- the cells of the block are tied as its entry says, and the tag counts on from the first one's seat
pub returns-clause-tie : goal.returns-clause-tie
returns-clause-tie g c =
    let own = c.self.inside in let tie = own.cells.tie in
    let block = c.args.block.now in let key = c.args.key.now in let place : ℕ = c.args.place in let offset : ℕ = c.args.offset in
    let cell : IsCellOf own.table key block place offset =
    subst (λ (v : VectorView g.row.T.Denot). IsCellOf v.segments key block place offset) (sym c.self.view_is) c.requires.cell in
    let within : offset < block_len block = subst (λ (b : BlockView). offset < block_len b) (sym cell.block) cell.within in
    let are = c.ties_laws.ensures.tied tie (block_len block) (mould_is own.word own.table tie own.tags c.self.invariant.tied key block place offset cell) in
    c.ties_laws.ensures.row (tie_numbered tie (first_seat block.cells)) (block_len block) offset are within
    ∙ ap Some (sym (c.further.ensures.tie ∙ ap (λ (t : Tie). tie_further t offset) c.numbered.ensures.tie))

-- a hand that knows the block's row finds the place
pub returns-clause-found : goal.returns-clause-found
returns-clause-found g c = λ hand ours knows.
    let own = c.self.inside in let tie = own.cells.tie in
    let block = c.args.block.now in let key = c.args.key.now in let place : ℕ = c.args.place in let offset : ℕ = c.args.offset in
    let vector = c.args.self.now in
    let cell : IsCellOf own.table key block place offset =
    subst (λ (v : VectorView g.row.T.Denot). IsCellOf v.segments key block place offset) (sym c.self.view_is) c.requires.cell in
    let within : offset < block_len block = subst (λ (b : BlockView). offset < block_len b) (sym cell.block) cell.within in
    let are = c.ties_laws.ensures.tied tie (block_len block) (mould_is own.word own.table tie own.tags c.self.invariant.tied key block place offset cell) in
    let tied : IsTiedBlock block =
    subst IsTied (sym (c.ties_laws.ensures.row (tie_numbered tie (first_seat block.cells)) (block_len block) 0 are (omega (arith, within)))) tt in
    let seat = ap (λ (t : Tie). t.id) (c.further.ensures.tie ∙ ap (λ (t : Tie). tie_further t offset) c.numbered.ensures.tie) in
    let mark = subst (λ (v : VectorView g.row.T.Denot). v.word.mark ≡ mark_of v.segments) c.self.view_is c.self.invariant.mark in
    finds_cell hand (layout_of vector) key.segment block place offset c.further.result.tie.id (layout_is vector hand mark ours) knows tied
    c.requires.cell.place seat within

-- so it finds places after each other
pub returns-clause-found_run : goal.returns-clause-found_run
returns-clause-found_run g c = λ hand n ours knows long.
    let own = c.self.inside in let tie = own.cells.tie in
    let block = c.args.block.now in let key = c.args.key.now in let place : ℕ = c.args.place in let offset : ℕ = c.args.offset in
    let vector = c.args.self.now in
    let cell : IsCellOf own.table key block place offset =
    subst (λ (v : VectorView g.row.T.Denot). IsCellOf v.segments key block place offset) (sym c.self.view_is) c.requires.cell in
    let within : offset < block_len block = subst (λ (b : BlockView). offset < block_len b) (sym cell.block) cell.within in
    let are = c.ties_laws.ensures.tied tie (block_len block) (mould_is own.word own.table tie own.tags c.self.invariant.tied key block place offset cell) in
    let tied : IsTiedBlock block =
    subst IsTied (sym (c.ties_laws.ensures.row (tie_numbered tie (first_seat block.cells)) (block_len block) 0 are (omega (arith, within)))) tt in
    let seat = ap (λ (t : Tie). t.id) (c.further.ensures.tie ∙ ap (λ (t : Tie). tie_further t offset) c.numbered.ensures.tie) in
    let mark = subst (λ (v : VectorView g.row.T.Denot). v.word.mark ≡ mark_of v.segments) c.self.view_is c.self.invariant.mark in
    finds_cells hand (layout_of vector) key.segment block place offset c.further.result.tie.id (layout_is vector hand mark ours) knows tied
    c.requires.cell.place seat n long

-- and the cells after it are tied to the seats after its seat
pub returns-clause-run : goal.returns-clause-run
returns-clause-run g c = λ n long.
    let own = c.self.inside in let tie = own.cells.tie in
    let block = c.args.block.now in let key = c.args.key.now in let place : ℕ = c.args.place in let offset : ℕ = c.args.offset in
    let cell : IsCellOf own.table key block place offset =
    subst (λ (v : VectorView g.row.T.Denot). IsCellOf v.segments key block place offset) (sym c.self.view_is) c.requires.cell in
    let within : offset < block_len block = subst (λ (b : BlockView). offset < block_len b) (sym cell.block) cell.within in
    let are = c.ties_laws.ensures.tied tie (block_len block) (mould_is own.word own.table tie own.tags c.self.invariant.tied key block place offset cell) in
    subst (λ (t : Tie). AreTiedTo (run_of t n) (cells_from n offset block.cells))
    (sym (c.further.ensures.tie ∙ ap (λ (t : Tie). tie_further t offset) c.numbered.ensures.tie))
    (c.ties_laws.ensures.run (tie_numbered tie (first_seat block.cells)) (block_len block) offset n are long)
