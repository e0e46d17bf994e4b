use Rattle.std.proofs.Common.{◌≡◌, None, subst}
use Rattle.grow_core.specs.Logs.{LogsRead}
use Rattle.span_core.specs.Writer.{WriterView}
use Rattle.span_core.proofs.writer.Writer.at.Goals as goal

pub returns-clause-looks : goal.returns-clause-looks
returns-clause-looks g c =
    subst (λ (w : WriterView _). c.args.known ≡ None → LogsRead c.args.place w.hand c.at.new.hand c.at.result)
    c.self.view_is c.at.ensures.looks
