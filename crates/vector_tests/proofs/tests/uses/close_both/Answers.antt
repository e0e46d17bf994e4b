-- By the clauses of `join`, `whole_laws` and `into_parts`.
use Rattle.std.proofs.Common.{◌≡◌, ◌+◌, ◌∙◌, subst, ap}
use Rattle.std.specs.List.{sum}
use Rattle.claim_core.specs.Word.{WordView}
use Rattle.claim_core.specs.Lengths.{Tiles}
use Rattle.vector_tests.proofs.tests.uses.close_both.Goals as goal

pub returns : goal.returns
returns c =
    let hand = c.join.new.hand in
    let word_is : hand.of ≡ c.args.vector.word = c.join.ensures.of ∙ c.requires.ours in
    let tiles = subst (λ (w : WordView). Tiles w.base hand.seen hand.mine) word_is c.whole_laws.ensures.tiles in
    let joined = subst (λ mine. Tiles c.args.vector.word.base hand.seen mine) c.join.ensures.mine tiles in
    (hand.seen, joined, c.len-len.ensures.value ∙ c.into_parts-parts.ensures.length ∙ ap (λ (w : WordView). w.base + sum hand.seen) word_is)
