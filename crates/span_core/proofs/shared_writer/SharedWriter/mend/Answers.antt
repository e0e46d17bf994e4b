use Rattle.std.proofs.Common.{◌∙◌, subst, ap, IfOk, IfErr, IsErrAnd}
use Rattle.grow_core.specs.Vector.{VectorView, IsOpenedAt}
use Rattle.grow_core.specs.Logs.{LogsMend, LogsNothing}
use Rattle.grow_core.specs.Mend.{IsMendDue, TellsValue}
use Rattle.span_core.specs.Writer.{WriterView}
use Rattle.span_core.proofs.shared_writer.SharedWriter.mend.Goals as goal

pub returns-clause-opened : goal.returns-clause-opened
returns-clause-opened g c =
    subst (λ (v : VectorView _). (x : _) → IsOpenedAt v c.args.place x → IsErrAnd c.mend.result (λ e. TellsValue x e.0))
    (c.deref.ensures ∙ ap (λ (w : WriterView _). w.vector) c.self.view_is) c.mend.ensures.opened

pub returns-clause-mends : goal.returns-clause-mends
returns-clause-mends g c =
    subst (λ (w : WriterView _). LogsMend w.vector c.args.place w.hand c.mend.new.hand c.mend.result) c.self.view_is
    (subst (λ (v : VectorView _). LogsMend v c.args.place c.self.inside.hand c.mend.new.hand c.mend.result) c.deref.ensures c.mend.ensures.mends)

pub returns-clause-logs : goal.returns-clause-logs
returns-clause-logs g c =
    subst (λ (w : WriterView _). IfOk c.mend.result (λ _. LogsNothing w.hand c.mend.new.hand)) c.self.view_is c.mend.ensures.logs

pub returns-clause-refused : goal.returns-clause-refused
returns-clause-refused g c =
    subst (λ (w : WriterView _). IfErr c.mend.result (λ e. IsMendDue w.vector c.args.place w.hand c.mend.new.hand e.0)) c.self.view_is
    (subst (λ (v : VectorView _). IfErr c.mend.result (λ e. IsMendDue v c.args.place c.self.inside.hand c.mend.new.hand e.0)) c.deref.ensures
    c.mend.ensures.refused)
