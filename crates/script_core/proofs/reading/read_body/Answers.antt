use Rattle.std.proofs.Common.{◌∙◌, ap, sym, arith}
use Rattle.std.proofs.lemmas.Bool.{eqb-true}
use Rattle.std.proofs.lemmas.Result.{err_from_is_err_and}
use Rattle.std.proofs.lemmas.List.{length-append, nil_from_length}
use Rattle.script_core.specs.Grammar.{lines, body_of}
use Rattle.script_core.proofs.LineByLine.{stops_whole, actor_fault, actor_found, items_fault, items_found, other_line, no_line, gives_same, gives_along}
use Rattle.script_core.proofs.reading.read_body.Goals as goal

pub loop-text-preserved : goal.loop-text-preserved
loop-text-preserved c = record {
  so_far =
      let found = rw c.deref.ensures.value at c.in_ok-name-in-Actor.ensures.given in
      let step = actor_found c.args.limit c.args.first c.loop-text.line c.loop-text.names.items c.loop-text.programs.items c.first_line.result.0.now c.in-Actor.words.now (lines c.first_line.result.1.now) (c.in_ok-name-in-Actor.name, c.in_ok-name-in-Actor.program) c.in-Actor.ensures.0 c.in-Actor.ensures.1 found in
      rw (c.in_ok-push-in-Actor.ensures.items, c.in_ok-push-in-Actor-2.ensures.items) (sym step ∙ ap (body_of c.args.limit c.args.first c.loop-text.line c.loop-text.names.items c.loop-text.programs.items) (sym c.first_line.ensures.lines) ∙ c.loop-text.invariant.so_far);
  few_lines = omega arith;
  few_names = rw (c.in_ok-push-in-Actor.ensures.items, length-append) (omega (arith, rw c.deref.ensures.value at c.in_ok-name-in-Actor.ensures.room));
}

pub returns-in_err-name-in-Actor : goal.returns-in_err-name-in-Actor
returns-in_err-name-in-Actor c =
    let p = err_from_is_err_and c.from_residual.result c.from_residual.ensures.1 in
    let given = rw c.deref.ensures.value at c.in_err-name-in-Actor.ensures.given in
    let stop = actor_fault c.in_err-name-in-Actor.field-0.0 c.args.limit c.args.first c.loop-text.line c.loop-text.names.items c.loop-text.programs.items c.first_line.result.0.now c.in-Actor.words.now (lines c.first_line.result.1.now) c.in-Actor.ensures.0 c.in-Actor.ensures.1 given in
    rw (p.1, p.2) (stops_whole _ _ _ (ap (body_of c.args.limit c.args.first c.loop-text.line c.loop-text.names.items c.loop-text.programs.items) (sym c.first_line.ensures.lines) ∙ c.loop-text.invariant.so_far) stop)

pub returns-in_err-items-in-Items : goal.returns-in_err-items-in-Items
returns-in_err-items-in-Items c =
    let p = err_from_is_err_and c.from_residual-in_err-items-in-Items.result c.from_residual-in_err-items-in-Items.ensures.1 in
    let given = rw c.deref-in-Items.ensures.value at c.in_err-items-in-Items.ensures in
    let stop = items_fault c.in_err-items-in-Items.field-0.0 c.args.limit c.args.first c.loop-text.line c.loop-text.names.items c.loop-text.programs.items c.first_line.result.0.now c.in-Items.words.now (lines c.first_line.result.1.now) c.in-Items.ensures.0 c.in-Items.ensures.1 c.in-Items.ensures.2 given in
    rw (p.1, p.2) (stops_whole _ _ _ (ap (body_of c.args.limit c.args.first c.loop-text.line c.loop-text.names.items c.loop-text.programs.items) (sym c.first_line.ensures.lines) ∙ c.loop-text.invariant.so_far) stop)

pub returns-in-Items : goal.returns-in-Items
returns-in-Items c =
    let found = rw c.deref-in-Items.ensures.value at c.in_ok-items-in-Items.ensures in
    let step = items_found c.args.limit c.args.first c.loop-text.line c.loop-text.names.items c.loop-text.programs.items c.first_line.result.0.now c.in-Items.words.now (lines c.first_line.result.1.now) c.in_ok-items-in-Items.items c.in-Items.ensures.0 c.in-Items.ensures.1 c.in-Items.ensures.2 found in
    let whole = sym c.loop-text.invariant.so_far ∙ ap (body_of c.args.limit c.args.first c.loop-text.line c.loop-text.names.items c.loop-text.programs.items) c.first_line.ensures.lines ∙ step in
    gives_along c.end_script.result _ _ whole (gives_same c.end_script.result _ (rw (c.from_vec-names.ensures, c.from_vec-programs.ensures) at c.end_script.ensures))

pub returns-in-Other : goal.returns-in-Other
returns-in-Other c = λ memory.
    sym c.loop-text.invariant.so_far ∙ ap (body_of c.args.limit c.args.first c.loop-text.line c.loop-text.names.items c.loop-text.programs.items) c.first_line.ensures.lines
    ∙ other_line c.args.limit c.args.first c.loop-text.line c.loop-text.names.items c.loop-text.programs.items c.first_line.result.0.now (lines c.first_line.result.1.now) c.in-Other.ensures.0 c.in-Other.ensures.1

pub returns : goal.returns
returns c = λ memory.
    sym c.loop-text.invariant.so_far ∙ no_line c.args.limit c.args.first c.loop-text.line c.loop-text.names.items c.loop-text.programs.items c.loop-text.text.now (nil_from_length c.loop-text.text.now (eqb-true _ _ (sym c.is_empty.ensures ∙ c.loop-text-test.false)))
