use Rattle.std.proofs.Common.{◌∙◌, sym, arith}
use Rattle.script_core.proofs.Cuts.{words_last, words_more, some_words, none_from, some_from}
use Rattle.script_core.proofs.command.split_words.Goals as goal

pub returns-in_default : goal.returns-in_default
returns-in_default c = words_last c.args.piece.now c.cut_at.result c.cut_at.ensures.cut c.in_default.is

pub returns-in_default-rest : goal.returns-in_default-rest
returns-in_default-rest c =
    let one = words_more c.args.piece.now c.cut_at.result c.in-Some.rest c.cut_at.ensures.cut c.in-Some.is in
    let two = words_last c.in-Some.rest.now c.cut_at-2.result c.cut_at-2.ensures.cut c.in_default-rest.is in
    cc

pub returns-in_default-rest-2 : goal.returns-in_default-rest-2
returns-in_default-rest-2 c =
    let one = words_more c.args.piece.now c.cut_at.result c.in-Some.rest c.cut_at.ensures.cut c.in-Some.is in
    let two = words_more c.in-Some.rest.now c.cut_at-2.result c.in-Some-rest.rest c.cut_at-2.ensures.cut c.in-Some-rest.is in
    let three = words_last c.in-Some-rest.rest.now c.cut_at-3.result c.cut_at-3.ensures.cut c.in_default-rest-2.is in
    cc

pub returns-then-is_some : goal.returns-then-is_some
returns-then-is_some c =
    let one = words_more c.args.piece.now c.cut_at.result c.in-Some.rest c.cut_at.ensures.cut c.in-Some.is in
    let two = words_more c.in-Some.rest.now c.cut_at-2.result c.in-Some-rest.rest c.cut_at-2.ensures.cut c.in-Some-rest.is in
    let three = words_more c.in-Some-rest.rest.now c.cut_at-3.result c.in-Some-rest-2.rest c.cut_at-3.ensures.cut c.in-Some-rest-2.is in
    let last = some_from c.cut_at-4.result.1 (sym c.is_some.ensures ∙ c.if-is_some.true) in
    let four = words_more c.in-Some-rest-2.rest.now c.cut_at-4.result last.0 c.cut_at-4.ensures.cut last.1 in
    rw (one, two, three, four) (omega (arith, some_words last.0.now))

pub returns : goal.returns
returns c =
    let one = words_more c.args.piece.now c.cut_at.result c.in-Some.rest c.cut_at.ensures.cut c.in-Some.is in
    let two = words_more c.in-Some.rest.now c.cut_at-2.result c.in-Some-rest.rest c.cut_at-2.ensures.cut c.in-Some-rest.is in
    let three = words_more c.in-Some-rest.rest.now c.cut_at-3.result c.in-Some-rest-2.rest c.cut_at-3.ensures.cut c.in-Some-rest-2.is in
    let four = words_last c.in-Some-rest-2.rest.now c.cut_at-4.result c.cut_at-4.ensures.cut (none_from c.cut_at-4.result.1 (sym c.is_some.ensures ∙ c.if-is_some.false)) in
    cc
