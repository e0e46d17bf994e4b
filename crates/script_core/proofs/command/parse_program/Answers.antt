use Rattle.std.proofs.Common.{◌∙◌, arith, sym, refl}
use Rattle.std.proofs.lemmas.Result.{err_from_is_err_and}
use Rattle.script_core.specs.Grammar.{parsed_program, words, parsed_command, pieces}
use Rattle.script_core.proofs.Cuts.{pieces_last, pieces_more, pieces_first, some_pieces}
use Rattle.script_core.proofs.TryEach.{stop_full, stop_fault, stop_last, goes_on}
use Rattle.script_core.proofs.command.parse_program.Goals as goal

pub loop-text-init : goal.loop-text-init
unfolding parsed_program
loop-text-init c = let e = c.new-commands.ensures.items in rw e refl

pub returns-then-len-ge-MOST_COMMANDS : goal.returns-then-len-ge-MOST_COMMANDS
returns-then-len-ge-MOST_COMMANDS c =
    stop_full (λ piece. parsed_command (words piece)) 1000 c.loop-text.commands.items (pieces c.loop-text.text.now) _ (omega arith) (some_pieces c.loop-text.text.now) c.loop-text.invariant

pub returns-in_err-parse_command : goal.returns-in_err-parse_command
returns-in_err-parse_command c =
    let p = err_from_is_err_and c.from_residual.result c.from_residual.ensures.1 in
    let first = pieces_first c.loop-text.text.now c.cut_at.result c.cut_at.ensures.cut in
    rw (p.1, p.2) (stop_fault (λ piece. parsed_command (words piece)) 1000 c.loop-text.commands.items (pieces c.loop-text.text.now) _ c.cut_at.result.0.now first.0 c.in_err-parse_command.field-0.0 (omega arith) first.1 (sym c.parse_command.ensures ∙ c.in_err-parse_command.was) c.loop-text.invariant)

pub returns-in_default : goal.returns-in_default
returns-in_default c =
    rw c.from_vec.ensures (stop_last (λ piece. parsed_command (words piece)) 1000 c.loop-text.commands.items c.push.new.self.items (pieces c.loop-text.text.now) _ c.cut_at.result.0.now c.in_ok-parse_command.field-0 (omega arith) (pieces_last c.loop-text.text.now c.cut_at.result c.cut_at.ensures.cut c.in_default.is) (sym c.parse_command.ensures ∙ c.in_ok-parse_command.was) c.in_ok-push.ensures.items c.loop-text.invariant)

pub loop-text-preserved : goal.loop-text-preserved
loop-text-preserved c =
    goes_on (λ piece. parsed_command (words piece)) 1000 c.loop-text.commands.items c.push.new.self.items (pieces c.loop-text.text.now) _ c.cut_at.result.0.now (pieces c.in-Some.rest.now) c.in_ok-parse_command.field-0 (omega arith) (pieces_more c.loop-text.text.now c.cut_at.result c.in-Some.rest c.cut_at.ensures.cut c.in-Some.is) (sym c.parse_command.ensures ∙ c.in_ok-parse_command.was) c.in_ok-push.ensures.items c.loop-text.invariant
