use Rattle.std.proofs.Common.{rules, ◌≡◌, ◌∙◌, ap, Err}
use Rattle.owner_tests.proofs.FirstMade.{first_of_refused}
use Rattle.owner_tests.proofs.vector.first_of_refused.Goals as goal

pub returns : goal.returns
returns c =
    c.get-2.ensures
    ∙ first_of_refused _ _ c.args.vector.now c.args.n c.args.hand.now c.try_grow_with.new.hand c.try_grow_with.result _ _ _ _ (λ y. y ≡ 70)
    c.try_grow_with.ensures.won c.try_grow_with.ensures.cause c.first_is_for_zero.ensures (c.in-Err-Refused.is ∙ ap Err c.in-Err-Refused.field-0-is) c.placed.ensures.value
    (λ y next call. search rules)
