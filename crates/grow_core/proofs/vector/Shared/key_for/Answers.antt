use Rattle.std.proofs.Common.{◌<◌, ◌∙◌, sym, subst, arith}
use Rattle.seg_core.specs.Segment.{segment_count}
use Rattle.grow_core.specs.Vector.{VectorView, layout_of}
use Rattle.grow_core.proofs.vector.Shared.key_for.Goals as goal

pub key_of-requires : goal.key_of-requires
key_of-requires g c =
    let within : c.args.segment < segment_count c.self.inside.table.layout = subst (λ (v : VectorView g.row.T.Denot). c.args.segment < segment_count (layout_of v)) (sym c.self.view_is) c.requires.within in
    omega (arith, within, c.self.invariant.whole.layout)

pub returns-in-Some-clause-key : goal.returns-in-Some-clause-key
returns-in-Some-clause-key g c =
    let within : c.args.segment < segment_count c.self.inside.table.layout = subst (λ (v : VectorView g.row.T.Denot). c.args.segment < segment_count (layout_of v)) (sym c.self.view_is) c.requires.within in
    c.requires.keys c.args.segment c.in-Some.key (omega (arith, within, c.self.invariant.whole.layout)) (sym c.key_of.ensures ∙ c.in-Some.is)

pub returns-in-Some-clause-row : goal.returns-in-Some-clause-row
returns-in-Some-clause-row g c =
    let within : c.args.segment < segment_count c.self.inside.table.layout = subst (λ (v : VectorView g.row.T.Denot). c.args.segment < segment_count (layout_of v)) (sym c.self.view_is) c.requires.within in
    c.requires.rows c.args.segment c.in-Some.key (omega (arith, within, c.self.invariant.whole.layout)) (sym c.key_of.ensures ∙ c.in-Some.is)
