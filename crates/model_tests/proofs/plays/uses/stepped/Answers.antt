use Rattle.std.proofs.Common.{ap, sym, ◌∙◌}
use Rattle.step_core.specs.machine.Step.{Configuration}
use Rattle.model_tests.proofs.ClaimedPlaces.{sizes_are_sums}
use Rattle.model_tests.proofs.SteppedPlays.{is_stepped, at_next_item, at_the_end}
use Rattle.model_tests.proofs.plays.uses.stepped.Goals as goal

pub loop-item-init : goal.loop-item-init
loop-item-init c = c.in_ok-machine.ensures.made ∙ sym (c.stepping.ensures.begins c.args.layout c.args.limit c.args.programs)

pub loop-item-preserved : goal.loop-item-preserved
loop-item-preserved c =
    at_next_item c.args.layout c.args.limit c.args.programs c.args.items.now c.loop-item.item-index c.stepping.ensures.goes_on _ c.loop-item.machine c.step.new.self
    c.loop-item-test.true c.loop-item.invariant
    (is_stepped c.step.result _ c.step.new.self (sym c.is_err.ensures.value ∙ c.if-is_err.false) c.step.ensures.steps)

pub returns-clause-at : goal.returns-clause-at
returns-clause-at c =
    at_the_end c.args.layout c.args.limit c.args.programs c.args.items.now c.loop-item.item-index c.loop-item.machine
    c.loop-item-test.false c.loop-item.auto.item-index-end c.loop-item.invariant

pub returns-clause-sum : goal.returns-clause-sum
returns-clause-sum c =
    ap (λ (at : Configuration). at.storage.size)
    (at_the_end c.args.layout c.args.limit c.args.programs c.args.items.now c.loop-item.item-index c.loop-item.machine
    c.loop-item-test.false c.loop-item.auto.item-index-end c.loop-item.invariant)
    ∙ sizes_are_sums c.tiling.ensures c.args.layout c.in_ok-machine.ensures.layout c.args.limit c.args.programs c.args.items.now c.in_ok-machine.ensures.limit
