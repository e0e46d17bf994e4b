use Rattle.std.proofs.Common.{subst, arith}
use Rattle.step_core.specs.machine.Tallies.{HasRoom}
use Rattle.step_core.proofs.atomic_steps.Tallies.{segments_in_order}
use Rattle.step_core.proofs.machine.counts.segments_wanted.Goals as goal

pub overflow_sub-last : goal.overflow_sub-last
overflow_sub-last c =
    let room = subst HasRoom c.in-Scout.is c.requires in
    let order = segments_in_order c.args.layout c.in-Scout.from c.in-Scout.n room.0 in
    rw (c.locate-first.ensures.number, c.locate-last.ensures.number) (omega arith)
