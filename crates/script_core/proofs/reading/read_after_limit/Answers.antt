use Rattle.std.proofs.Common.{[], ap, sym, ◌∙◌}
use Rattle.std.proofs.lemmas.Bool.{eqb-true}
use Rattle.std.proofs.lemmas.List.{nil_from_length}
use Rattle.std.proofs.lemmas.Result.{err_from_is_err_and}
use Rattle.script_core.specs.Grammar.{lines, after_limit, body_of}
use Rattle.script_core.proofs.LineByLine.{none_after, no_layout, layout_fault, layout_found, gives_along}
use Rattle.script_core.proofs.reading.read_after_limit.Goals as goal

pub returns-then-is_empty : goal.returns-then-is_empty
returns-then-is_empty c = λ memory.
    none_after c.args.limit c.args.text.now (nil_from_length c.args.text.now (eqb-true _ _ (sym c.is_empty.ensures ∙ c.if-is_empty.true)))

pub returns-then-not-is_layout_line : goal.returns-then-not-is_layout_line
returns-then-not-is_layout_line c =
    let none = no_layout c.args.limit c.first_line.result.0.now (lines c.first_line.result.1.now) (sym c.is_layout_line.ensures.value ∙ c.if-not-is_layout_line.true) in
    let split = c.first_line.ensures.lines in
    gives_along c.read_body.result _ _ (ap (after_limit c.args.limit) split ∙ none ∙ ap (body_of c.args.limit 1 2 [] []) (sym split)) c.read_body.ensures

pub returns-in_err-first : goal.returns-in_err-first
returns-in_err-first c =
    let p = err_from_is_err_and c.from_residual.result c.from_residual.ensures.1 in
    rw (p.1, p.2) (λ memory.
    ap (after_limit c.args.limit) c.first_line.ensures.lines
    ∙ layout_fault _ c.args.limit c.first_line.result.0.now (lines c.first_line.result.1.now) (sym c.is_layout_line.ensures.value ∙ c.if-not-is_layout_line.false) (sym c.read_layout.ensures ∙ c.in_err-first.was))

pub returns : goal.returns
returns c =
    gives_along c.read_body-2.result _ _
    (ap (after_limit c.args.limit) c.first_line.ensures.lines
    ∙ layout_found c.args.limit c.in_ok-first.first c.first_line.result.0.now (lines c.first_line.result.1.now) (sym c.is_layout_line.ensures.value ∙ c.if-not-is_layout_line.false) (sym c.read_layout.ensures ∙ c.in_ok-first.was))
    c.read_body-2.ensures
