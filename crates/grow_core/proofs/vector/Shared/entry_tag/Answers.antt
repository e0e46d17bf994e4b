use Rattle.std.proofs.Common.{ℕ, ◌<◌, sym, subst, arith}
use Rattle.seg_core.specs.Segment.{segment_count}
use Rattle.tie_core.specs.Tags.{tag_of}
use Rattle.grow_core.specs.Ties.{IsTagOf}
use Rattle.grow_core.specs.Vector.{VectorView, layout_of}
use Rattle.grow_core.proofs.vector.Shared.entry_tag.Goals as goal

pub at-requires : goal.at-requires
at-requires g c =
    let within : c.args.segment < segment_count c.self.inside.table.layout = subst (λ (v : VectorView g.row.T.Denot). c.args.segment < segment_count (layout_of v)) (sym c.self.view_is) c.requires in
    omega (arith, within, c.self.invariant.tied.all, c.from.ensures)

pub returns : goal.returns
returns g c =
    let cells = c.self.inside.cells.tie in let segment : ℕ = c.args.segment in
    let tag = tag_of c.at.result.tie c.at.result.from c.at.result.n in (
      cells,
      subst (λ (v : VectorView g.row.T.Denot). IsTagOf v.word v.segments cells segment tag) c.self.view_is
          (subst (λ (k : ℕ). IsTagOf c.self.inside.word c.self.inside.table cells k tag) c.from.ensures (c.self.invariant.tied.each c.from.result tag c.at.ensures)),
    )
