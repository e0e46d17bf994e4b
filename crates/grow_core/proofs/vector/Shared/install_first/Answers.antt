use Rattle.std.proofs.Common.{ℕ, ◌<◌, ◌∙◌, ap, subst, arith}
use Rattle.seg_core.specs.Segment.{segment_count}
use Rattle.claim_core.specs.Hand.{HandView}
use Rattle.grow_core.specs.Vector.{VectorView, layout_of}
use Rattle.grow_core.proofs.vector.Shared.install_first.Goals as goal

pub install_unseen-requires : goal.install_unseen-requires
install_unseen-requires g c =
    let layout = c.layout-layout.ensures.value ∙ ap (λ (v : VectorView g.row.T.Denot). layout_of v) c.self.view_is in
    let small = subst (λ (f : ℕ). c.loop-segment.segment < segment_count f) layout (omega (arith, c.loop-segment-test.true, c.segments_of-first.ensures.bound)) in
    (omega arith, (ap (λ (h : HandView). h.of) c.loop-segment.invariant ∙ c.requires.ours, small))
