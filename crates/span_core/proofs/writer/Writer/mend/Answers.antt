use Rattle.std.proofs.Common.{subst, ap, IfOk, IsErrAnd}
use Rattle.grow_core.specs.Vector.{VectorView, IsOpenedAt}
use Rattle.grow_core.specs.Logs.{LogsMend, LogsNothing}
use Rattle.grow_core.specs.Mend.{TellsValue}
use Rattle.span_core.specs.Writer.{WriterView}
use Rattle.span_core.proofs.writer.Writer.mend.Goals as goal

pub returns-clause-opened : goal.returns-clause-opened
returns-clause-opened g c =
    subst (λ (v : VectorView _). (x : _) → IsOpenedAt v c.args.place x → IsErrAnd c.mend.result (λ e. TellsValue x e.0))
    (ap (λ (w : WriterView _). w.vector) c.self.view_is) c.mend.ensures.opened

pub returns-clause-mends : goal.returns-clause-mends
returns-clause-mends g c =
    subst (λ (w : WriterView _). LogsMend w.vector c.args.place w.hand c.mend.new.hand c.mend.result) c.self.view_is c.mend.ensures.mends

pub returns-clause-logs : goal.returns-clause-logs
returns-clause-logs g c =
    subst (λ (w : WriterView _). IfOk c.mend.result (λ _. LogsNothing w.hand c.mend.new.hand)) c.self.view_is c.mend.ensures.logs
