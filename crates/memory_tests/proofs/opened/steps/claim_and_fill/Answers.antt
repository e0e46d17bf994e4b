-- By the public clauses of the word, and the law of the places that a step adds.
use Rattle.std.proofs.Common.{arith}
use Rattle.memory_tests.proofs.opened.steps.claim_and_fill.Goals as goal

pub fill_own-requires-clause-own : goal.fill_own-requires-clause-own
fill_own-requires-clause-own c =
    let from = c.in-Ok.ensures.whole c.requires.whole in let next = c.requires.next in
    let end = c.in-Ok.ensures.run in let more = c.requires.to.0 in
    c.added_places_are_owned.ensures c.args.hand.now c.raise.new.hand c.in-Ok._run c.args.place c.in-Ok.ensures.claimed
    (omega (arith, from, next), omega (arith, end, more))
