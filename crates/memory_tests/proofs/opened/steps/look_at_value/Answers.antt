-- By the public clauses of the hand, and the law of the values that a word is opened with.
use Rattle.std.proofs.Common.{◌∙◌}
use Rattle.memory_tests.proofs.StepsOpened.{value_found}
use Rattle.memory_tests.proofs.opened.steps.look_at_value.Goals as goal

pub returns-clause-looked : goal.returns-clause-looked
returns-clause-looked c =
    value_found c.opened_values_are_found.ensures.found c.args.word.now c.args.hand.now c.look_at-look.new.hand c.args.place
    (c.look_at-look.ensures.goes_on.of ∙ c.requires.ours) c.requires.opened.0 c.requires.opened.1 c.laws.ensures.history c.look_at-look.ensures.looked
