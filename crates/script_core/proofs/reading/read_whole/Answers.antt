use Rattle.std.proofs.Common.{◌<◌, length, ◌∙◌, sym, arith}
use Rattle.std.proofs.lemmas.Bool.{eqb-true, eqb-false}
use Rattle.std.proofs.lemmas.Result.{err_from_is_err_and}
use Rattle.script_core.specs.Grammar.{lines}
use Rattle.script_core.proofs.LineByLine.{empty_text, long_text, first_fault, first_found, gives_along}
use Rattle.script_core.proofs.reading.read_whole.Goals as goal

pub returns-then-is_empty : goal.returns-then-is_empty
returns-then-is_empty c = λ memory. empty_text c.args.text.now (eqb-true _ _ (sym c.is_empty.ensures ∙ c.if-is_empty.true))

pub returns-then-text-gt-MOST_BYTES : goal.returns-then-text-gt-MOST_BYTES
returns-then-text-gt-MOST_BYTES c = λ memory. rw c.line_of_last_byte-line.ensures (long_text c.args.text.now (omega arith))

pub returns-in_err-limit : goal.returns-in_err-limit
returns-in_err-limit c =
    let p = err_from_is_err_and c.from_residual.result c.from_residual.ensures.1 in
    let some : 0 < length c.args.text.now = omega (arith, eqb-false _ _ (sym c.is_empty.ensures ∙ c.if-is_empty.false)) in
    rw (p.1, p.2) (λ memory. first_fault c.args.text.now c.first_line.result.0.now (lines c.first_line.result.1.now) _ some (omega arith) c.first_line.ensures.lines (sym c.read_limit.ensures ∙ c.in_err-limit.was))

pub returns : goal.returns
returns c =
    let some : 0 < length c.args.text.now = omega (arith, eqb-false _ _ (sym c.is_empty.ensures ∙ c.if-is_empty.false)) in
    let found = first_found c.args.text.now c.first_line.result.0.now (lines c.first_line.result.1.now) _ some (omega arith) c.first_line.ensures.lines (sym c.read_limit.ensures ∙ c.in_ok-limit.was) in
    gives_along c.read_after_limit.result _ _ found c.read_after_limit.ensures
