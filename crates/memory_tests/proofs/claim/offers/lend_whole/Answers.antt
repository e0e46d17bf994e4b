-- By the public clauses of the word.
use Rattle.std.proofs.Common.{ℕ, [], ◌∷◌, ap, sym, ◌∙◌}
use Rattle.claim_core.specs.Plays.{block_view}
use Rattle.memory_tests.proofs.claim.offers.lend_whole.Goals as goal

pub lend_to_exchange-requires-clause-ours : goal.lend_to_exchange-requires-clause-ours
lend_to_exchange-requires-clause-ours g c = c.enter-own.ensures.ends.of ∙ c.requires.ours

pub lend_to_exchange-requires-clause-tied : goal.lend_to_exchange-requires-clause-tied
lend_to_exchange-requires-clause-tied g c = c.enter-own.ensures.entry.0

pub lend_to_exchange-requires-clause-block : goal.lend_to_exchange-requires-clause-block
lend_to_exchange-requires-clause-block g c =
    let block = c.lay-seats.ensures.block in
    (block.0, block.2 ∙ ap (λ (n : ℕ). block_view c.lay-seats.result.1.tie.id n ∷ []) (sym c.enter-own.ensures.entry.3))
