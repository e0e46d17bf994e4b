use Rattle.std.proofs.Common.{IfErr, subst}
use Rattle.std.proofs.lemmas.Result.{err_from_is_err_and}
use Rattle.grow_core.specs.Vector.{VectorView}
use Rattle.grow_core.specs.Logs.{LogsRead, LogsNoValue}
use Rattle.grow_core.specs.Read.{IsDueAt}
use Rattle.span_core.specs.Writer.{WriterView}
use Rattle.span_core.proofs.shared_writer.SharedWriter.at.Goals as goal

pub returns-in_err-placed-clause-looks_refusal : goal.returns-in_err-placed-clause-looks_refusal
returns-in_err-placed-clause-looks_refusal g c = λ none.
    let p = err_from_is_err_and c.from_residual.result c.from_residual.ensures.1 in
    let new = c.at.new.hand in
    rw (p.1, p.2)
    (subst (λ (w : WriterView _). LogsNoValue c.args.place w.hand new c.in_err-placed.field-0.0) c.self.view_is
    (subst (λ r. LogsRead c.args.place c.self.inside.hand new r) c.in_err-placed.was (c.at.ensures.looks none)))

pub returns-in_err-placed-clause-refused : goal.returns-in_err-placed-clause-refused
returns-in_err-placed-clause-refused g c =
    let p = err_from_is_err_and c.from_residual.result c.from_residual.ensures.1 in
    let new = c.at.new.hand in
    rw (p.1, p.2)
    (subst (λ (w : WriterView _). IsDueAt w.vector c.args.place w.hand new c.in_err-placed.field-0.0) c.self.view_is
    (subst (λ (v : VectorView _). IsDueAt v c.args.place c.self.inside.hand new c.in_err-placed.field-0.0) c.deref.ensures
    (subst (λ r. IfErr r (IsDueAt c.deref.result.now c.args.place c.self.inside.hand new)) c.in_err-placed.was c.at.ensures.refused)))
