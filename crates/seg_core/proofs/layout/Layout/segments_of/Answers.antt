use Rattle.seg_core.proofs.Doubling.{touches_between, between_touches}
use Rattle.seg_core.proofs.layout.Layout.segments_of.Goals as goal

pub returns-clause-touched : goal.returns-clause-touched
returns-clause-touched c k = (
  touches_between _ _ _ _ _ k c.locate-first.ensures.segment c.locate-last.ensures.segment c.requires.some,
  λ (low, high). between_touches _ _ _ _ _ k c.locate-first.ensures.segment c.locate-last.ensures.segment c.requires.some low high,
)
