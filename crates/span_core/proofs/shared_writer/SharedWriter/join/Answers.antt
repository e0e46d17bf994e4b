use Rattle.std.proofs.Common.{subst, ap}
use Rattle.claim_core.specs.Hand.{HandView, OwnApart}
use Rattle.span_core.specs.Writer.{WriterView}
use Rattle.span_core.proofs.shared_writer.SharedWriter.join.Goals as goal

pub returns-clause-apart : goal.returns-clause-apart
returns-clause-apart g c =
    subst (λ (h : HandView). OwnApart h c.args.other.hand) (ap (λ (w : WriterView _). w.hand) c.self.view_is)
    (subst (λ (h : HandView). OwnApart c.self.inside.hand h) c.into_parts-vector.ensures.hand c.join.ensures.apart)
