use Rattle.std.proofs.Common.{ℕ, ◌∙◌, subst}
use Rattle.seg_core.specs.Segment.{HasPlace}
use Rattle.grow_core.proofs.KeyRows.{hand_layout}
use Rattle.grow_core.proofs.vector.Shared.find_segment.Goals as goal

pub key-key-requires-clause-there : goal.key-key-requires-clause-there
key-key-requires-clause-there g c =
    let here = c.layout-layout.ensures.value ∙ hand_layout c.args.hand.now c.self.invariant c.self.view_is c.requires.ours in
    subst (λ (f : ℕ). HasPlace f c.locate-segment.result.0 c.args.place) here c.locate-segment.ensures.segment
