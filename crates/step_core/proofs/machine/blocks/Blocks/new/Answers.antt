use Rattle.std.proofs.Common.{rules}
use Rattle.step_core.proofs.atomic_steps.BlockViews.{none_read, nothing_is_blocks, shows_nothing}
use Rattle.step_core.proofs.machine.blocks.Blocks.new.Goals as goal

pub invariant_of-result : goal.invariant_of-result
invariant_of-result c =
    let made = c.from_fn.ensures.items in
    nothing_is_blocks c.args.layout c.from_fn.result c.f-f.ensures.layout made.long (none_read c.from_fn.result made.long (λ i e inside. let call = (made.at i e inside).2.met in search rules))

pub returns-clause-empty : goal.returns-clause-empty
returns-clause-empty c =
    let made = c.from_fn.ensures.items in
    shows_nothing c.args.layout c.from_fn.result (none_read c.from_fn.result made.long (λ i e inside. let call = (made.at i e inside).2.met in search rules))
