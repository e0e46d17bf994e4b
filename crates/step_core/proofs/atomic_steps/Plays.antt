-- The play of more items is the play of the first ones, gone on with the others.
use Rattle.std.proofs.Common.{◌≡◌, List, [], ◌∷◌, ◌++◌, refl}
use Rattle.book_core.specs.declared.commands.Item.{Item}
use Rattle.step_core.specs.machine.Step.{step_of}
use Rattle.step_core.specs.machine.Play.{Play, empty_play, with_step, after_items, PlaysGoOnByAStep}

after_items-append : (p : Play) (items more : List Item)
    → after_items p (items ++ more) ≡ after_items (after_items p items) more
after_items-append p [] more = refl
after_items-append p (item ∷ items) more = after_items-append (with_step p (step_of p.at item.actor item.memory)) items more

pub plays_go_on_by_a_step : PlaysGoOnByAStep
plays_go_on_by_a_step f limit programs items item = after_items-append (empty_play f limit programs) items (item ∷ [])
