use Rattle.std.proofs.Common.{◌∙◌, [], ◌∷◌, subst, arith, length-append}
use Rattle.claim_core.specs.Hand.{HandView, SeesOwn}
use Rattle.span_core.proofs.WriterLemmas.{adds_next, pushes_next}
use Rattle.span_core.proofs.writer.Writer.push_all.Goals as goal

pub loop-item-preserved : goal.loop-item-preserved
loop-item-preserved g c =
    let kept = c.loop-item.invariant in
    let sees = subst (λ (h : HandView). SeesOwn h) c.hand.ensures.value c.laws-in-loop-item.ensures.below in (
      c.in-Ok.ensures.vector ∙ kept.0,
      adds_next c.added_places_add_up.ensures _ _ _ _ _ sees kept.1 c.in-Ok.ensures.won.run,
      omega (arith, kept.2, length-append c.loop-item.yielded (c.in-Some.item ∷ [])),
      pushes_next c.args.self.now.hand _ _ _ _ kept.3 c.in-Ok.ensures.won.run c.in-Ok.ensures.logs,
    )
