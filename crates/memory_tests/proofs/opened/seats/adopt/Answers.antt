-- By the public clauses of the word, and the law of the first stages.
use Rattle.memory_tests.proofs.ListsOpened.{at_stages, broken_for}
use Rattle.memory_tests.proofs.opened.seats.adopt.Goals as goal

pub tie_now-requires-clause-fixed : goal.tie_now-requires-clause-fixed
tie_now-requires-clause-fixed g c =
    let stages = c.adopt-seats.ensures.stages in
    at_stages c.first_stages_go_in_order.ensures c.args.cells.now c.args.row.now c.args.ended.now c.requires.list
    c.args.word.now.base c.args.word.now.filled c.requires.word.0 c.requires.word.1 c.len.result c.len.ensures
    c.adopt-seats.result.0.stages stages.0 stages.1

pub tie_now-requires-clause-broken : goal.tie_now-requires-clause-broken
tie_now-requires-clause-broken g c =
    let stages = c.adopt-seats.ensures.stages in
    broken_for c.first_stages_go_in_order.ensures c.args.cells.now c.args.row.now c.args.ended.now c.requires.list
    c.args.word.now.base c.args.word.now.filled c.requires.word.0 c.requires.word.1 c.len.result c.len.ensures
    c.adopt-seats.result.0.stages stages.0 stages.1
