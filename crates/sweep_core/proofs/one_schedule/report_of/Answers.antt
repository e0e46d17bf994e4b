use Rattle.std.proofs.Common.{length, ap, sym, ◌∙◌, subst}
use Rattle.std.specs.Int.{from_bool}
use Rattle.book_core.specs.Cells.{empty_list}
use Rattle.book_core.specs.History.{IsLegalFrom}
use Rattle.sweep_core.specs.Sweep.{sampled_limit}
use Rattle.sweep_core.proofs.Sampled.{is_legal, is_report}
use Rattle.sweep_core.proofs.one_schedule.report_of.Goals as goal

pub returns : goal.returns
returns c =
    let seed = c.args.seed in
    let len = c.args.len in
    let events = c.in_ok-played.ensures.events in
    let told = subst (IsLegalFrom (empty_list sampled_limit)) (sym (c.as_slice.ensures ∙ events)) (is_legal c.legal.ensures seed len) in
    is_report seed len c.from.result c.len.result c.len-2.result
    (c.from.ensures ∙ ap from_bool (c.in_ok-legal.ensures.1 told))
    (c.len.ensures ∙ ap length events)
    (c.len-2.ensures ∙ ap length c.in_ok-played.ensures.ended)
