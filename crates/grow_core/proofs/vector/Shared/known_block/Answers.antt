use Rattle.std.proofs.Common.{ℕ, ◌<◌, sym, subst}
use Rattle.seg_core.specs.Segment.{segment_count}
use Rattle.cell_core.specs.Block.{BlockView}
use Rattle.table_core.specs.Table.{IsBlockOf, IsTiedBlockOf, FitsTie}
use Rattle.grow_core.specs.Vector.{VectorView, layout_of}
use Rattle.grow_core.proofs.Entries.{tied_block}
use Rattle.grow_core.proofs.vector.Shared.known_block.Goals as goal

pub returns-clause-tied : goal.returns-clause-tied
returns-clause-tied g c =
    let segments = c.self.inside.table in let segment : ℕ = c.args.key.now.segment in let is = c.known.ensures.block in
    let within = subst (λ (v : VectorView g.row.T.Denot). segment < segment_count (layout_of v)) (sym c.self.view_is) c.requires.within in
    subst (λ (v : VectorView g.row.T.Denot). IsTiedBlockOf v.segments segment c.args.key.now.block) c.self.view_is
    (tied_block c.self.inside.word segments c.self.inside.cells.tie c.self.inside.tags segment c.args.key.now.block c.self.invariant.tied within
    (subst (λ (b : BlockView). IsBlockOf segments.layout segment b) is c.known.ensures.length) (subst (FitsTie segments segment) is c.known.ensures.tied))
