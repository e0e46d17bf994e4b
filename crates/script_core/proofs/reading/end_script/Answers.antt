use Rattle.std.proofs.Common.{◌∙◌, sym, arith}
use Rattle.std.proofs.lemmas.Bool.{eqb-true, eqb-false}
use Rattle.std.proofs.lemmas.List.{nil_from_length}
use Rattle.script_core.proofs.LineByLine.{closed_none, closed_some}
use Rattle.script_core.proofs.reading.end_script.Goals as goal

pub returns-then-is_empty : goal.returns-then-is_empty
returns-then-is_empty c =
    closed_none c.args.line c.args.script c.args.rest.now (nil_from_length c.args.rest.now (eqb-true _ _ (sym c.is_empty.ensures ∙ c.if-is_empty.true)))

pub returns-else-is_empty : goal.returns-else-is_empty
returns-else-is_empty c =
    let some = eqb-false _ _ (sym c.is_empty.ensures ∙ c.if-is_empty.false) in
    closed_some c.args.line c.args.script c.args.rest.now (omega (arith, some))
