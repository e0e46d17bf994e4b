use Rattle.std.proofs.Common.{Some, slice_set, refl, sym, ◌∙◌}
use Rattle.step_core.specs.machine.Step.{Configuration}
use Rattle.step_core.specs.machine.Tallies.{phases_at}
use Rattle.step_core.proofs.atomic_steps.Actors.{any_err, there_of, idle_step, idle_phases, taken_step, taken_phases}
use Rattle.step_core.proofs.machine.step_among.Goals as goal

pub returns-in_default-command-clause-steps : goal.returns-in_default-command-clause-steps
returns-in_default-command-clause-steps c =
    let before : Configuration = record { limit = c.args.limit; storage = c.args.storage.now; actors = c.args.actors.now.items } in
    let item = c.in-Some.ensures.item in let there = there_of c.args.actors.now.items c.args.actor c.in-Some.current.now item.3.0 item.1 in
    idle_step before c.args.actor c.args.memory c.in-Some.current.now there (sym c.command.ensures.call ∙ c.in_default-command.is) _ refl

pub returns-in_default-command-clause-phases : goal.returns-in_default-command-clause-phases
returns-in_default-command-clause-phases c =
    let before : Configuration = record { limit = c.args.limit; storage = c.args.storage.now; actors = c.args.actors.now.items } in
    let item = c.in-Some.ensures.item in let there = there_of c.args.actors.now.items c.args.actor c.in-Some.current.now item.3.0 item.1 in
    sym (idle_phases before c.args.actor c.args.memory c.in-Some.current.now there (sym c.command.ensures.call ∙ c.in_default-command.is)
    (record { limit = c.args.limit; storage = c.args.storage.now; actors = slice_set c.args.actors.now.items c.args.actor c.in-Some.current.now }))

pub returns-in_err-outcome-clause-memory : goal.returns-in_err-outcome-clause-memory
returns-in_err-outcome-clause-memory c =
    let item = c.in-Some.ensures.item in let there = there_of c.args.actors.now.items c.args.actor c.in-Some.current.now item.3.0 item.1 in
    any_err c.from_residual.result (record { state = c.in-Some.current.now; there = there; takes = c.in_err-outcome.ensures.memory })

pub returns-clause-steps : goal.returns-clause-steps
returns-clause-steps c =
    let before : Configuration = record { limit = c.args.limit; storage = c.args.storage.now; actors = c.args.actors.now.items } in
    let item = c.in-Some.ensures.item in let there = there_of c.args.actors.now.items c.args.actor c.in-Some.current.now item.3.0 item.1 in
    let some = sym c.command.ensures.call ∙ c.in-Some-command.is in let state = c.follow-ended.ensures.state in
    let taken = taken_step before c.args.actor c.args.memory c.in-Some.current.now there c.in-Some-command.command some c.step.new.self c.in_ok-outcome.outcome c.in_ok-outcome.ensures.gives in
    ((λ i. record { limit = c.args.limit; storage = c.step.new.self; actors = slice_set c.args.actors.now.items c.args.actor (state i) }) ∙ taken.0, taken.1, c.follow-ended.ensures.ended ∙ taken.2)

pub returns-clause-phases : goal.returns-clause-phases
returns-clause-phases c =
    let before : Configuration = record { limit = c.args.limit; storage = c.args.storage.now; actors = c.args.actors.now.items } in
    let item = c.in-Some.ensures.item in let there = there_of c.args.actors.now.items c.args.actor c.in-Some.current.now item.3.0 item.1 in
    let some = sym c.command.ensures.call ∙ c.in-Some-command.is in let state = c.follow-ended.ensures.state in
    let taken = taken_phases before c.args.actor c.args.memory c.in-Some.current.now there c.in-Some-command.command some c.step.new.self c.in_ok-outcome.outcome in
    sym ((λ i. phases_at before (record { limit = c.args.limit; storage = c.step.new.self; actors = slice_set c.args.actors.now.items c.args.actor (state i) }) c.args.actor) ∙ taken ∙ (λ i. Some (c.in-Some.current.now.phase, (sym state i).phase)))
