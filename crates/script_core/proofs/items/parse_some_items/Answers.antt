use Rattle.std.proofs.Common.{◌∙◌, arith, sym, refl}
use Rattle.std.proofs.lemmas.Result.{err_from_is_err_and}
use Rattle.script_core.specs.Grammar.{parsed_item, words}
use Rattle.script_core.proofs.Cuts.{words_last, words_more, words_first, some_words}
use Rattle.script_core.proofs.TryEach.{stop_full, stop_fault, stop_last, goes_on}
use Rattle.script_core.proofs.items.parse_some_items.Goals as goal

pub loop-text-init : goal.loop-text-init
loop-text-init c = let e = c.new-items.ensures.items in rw e refl

pub returns-then-len-ge-MOST_ITEMS : goal.returns-then-len-ge-MOST_ITEMS
returns-then-len-ge-MOST_ITEMS c =
    stop_full (parsed_item c.args.names.now) 100000 c.loop-text.items.items (words c.loop-text.text.now) _ (omega arith) (some_words c.loop-text.text.now) c.loop-text.invariant

pub returns-in_err-parse_item : goal.returns-in_err-parse_item
returns-in_err-parse_item c =
    let p = err_from_is_err_and c.from_residual.result c.from_residual.ensures.1 in
    let first = words_first c.loop-text.text.now c.cut_at.result c.cut_at.ensures.cut in
    rw (p.1, p.2) (stop_fault (parsed_item c.args.names.now) 100000 c.loop-text.items.items (words c.loop-text.text.now) _ c.cut_at.result.0.now first.0 c.in_err-parse_item.field-0.0 (omega arith) first.1 (sym c.parse_item.ensures ∙ c.in_err-parse_item.was) c.loop-text.invariant)

pub returns-in_default : goal.returns-in_default
returns-in_default c =
    rw c.from_vec.ensures (stop_last (parsed_item c.args.names.now) 100000 c.loop-text.items.items c.push.new.self.items (words c.loop-text.text.now) _ c.cut_at.result.0.now c.in_ok-parse_item.field-0 (omega arith) (words_last c.loop-text.text.now c.cut_at.result c.cut_at.ensures.cut c.in_default.is) (sym c.parse_item.ensures ∙ c.in_ok-parse_item.was) c.in_ok-push.ensures.items c.loop-text.invariant)

pub loop-text-preserved : goal.loop-text-preserved
loop-text-preserved c =
    goes_on (parsed_item c.args.names.now) 100000 c.loop-text.items.items c.push.new.self.items (words c.loop-text.text.now) _ c.cut_at.result.0.now (words c.in-Some.rest.now) c.in_ok-parse_item.field-0 (omega arith) (words_more c.loop-text.text.now c.cut_at.result c.in-Some.rest c.cut_at.ensures.cut c.in-Some.is) (sym c.parse_item.ensures ∙ c.in_ok-parse_item.was) c.in_ok-push.ensures.items c.loop-text.invariant
