use Rattle.std.proofs.Common.{ℕ, sym, ap, ◌∙◌, subst, arith}
use Rattle.seg_core.specs.Segment.{Touches}
use Rattle.grow_core.specs.Vector.{VectorView, layout_of}
use Rattle.grow_core.proofs.KeyRows.{walked_on}
use Rattle.grow_core.proofs.Works.{finds_on}
use Rattle.grow_core.proofs.vector.Shared.install.Goals as goal

pub loop-segment-preserved : goal.loop-segment-preserved
loop-segment-preserved g c =
    let at = c.loop-segment in (
      c.key_for.ensures.keys,
      walked_on at.invariant.1 (omega (arith, c.f-f.ensures.layout.0, c.segments_of-first.ensures.bound)) c.key_for.ensures.kept
          (λ _. c.in_ok-key_for.ensures.put),
      c.key_for.ensures.rows,
      finds_on c.args.claims.now at.claims c.key_for.new.claims at.invariant.3 c.key_for.ensures.finds,
    )

pub returns-clause-run : goal.returns-clause-run
returns-clause-run g c = λ segment small touches.
    let within = (c.segments_of-first.ensures.touched segment).0 (subst (λ (f : ℕ). Touches f segment c.args.from c.args.n) (sym (c.layout-layout.ensures.value ∙ ap (λ (v : VectorView g.row.T.Denot). layout_of v) c.self.view_is)) touches) in
    c.loop-segment.invariant.1.there segment (let lt = within.1 in omega arith) within.0
