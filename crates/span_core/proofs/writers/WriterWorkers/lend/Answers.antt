use Rattle.std.proofs.Common.{◌∙◌, refl, sym, subst, arith}
use Rattle.claim_core.specs.Hand.{HandView}
use Rattle.span_core.specs.Writer.{WriterView, IsTied}
use Rattle.span_core.proofs.writers.WriterWorkers.lend.Goals as goal

pub tied-writer-requires : goal.tied-writer-requires
tied-writer-requires g c =
    (omega arith, (c.requires.0, subst (λ t. IsTied t c.args.self.now.vector.now) (sym c.requires.4) refl))

pub returns-clause-of : goal.returns-clause-of
returns-clause-of g c =
    c.into_hand.ensures.ours ∙ subst (λ t. IsTied t c.work-answer.new.writer.vector) c.requires.4 c.into_hand.ensures.tied

pub returns-clause-says : goal.returns-clause-says
returns-clause-says g c =
    let says = g.W.WriterJob.says c.args.self.now.work.now in
    let lent = subst (λ (w : WriterView _). says w.vector c.args.worker w.hand c.work-answer.new.writer.hand c.work-answer.result)
    {y = record { vector = c.args.self.now.vector.now; hand = c.args.brought }} c.tied-writer.ensures c.work-answer.ensures in (
      c.args.brought,
      c.requires.0,
      c.requires.1,
      (let shares = c.requires.2 in omega arith),
      subst (λ (h : HandView). says c.args.self.now.vector.now c.args.worker c.args.brought h c.work-answer.result) (sym c.into_hand.ensures.value) lent,
    )
