use Rattle.vector_tests.proofs.Filled.{push_steps, growth_steps, done_in_turn}
use Rattle.vector_tests.proofs.tests.filled.work_in_turn.Goals as goal

pub returns-clause-done : goal.returns-clause-done
returns-clause-done c =
    let pushed = c.try_push_back-pushed in let grown = c.try_grow_by-grown in let failed = c.try_grow_with-failed in let read = c.find-read in let size = c.size-size in
    done_in_turn c.args.hand.log pushed.new.hand.log grown.new.hand.log failed.new.hand.log read.new.hand.log size.new.hand.log 2 0 size.result pushed.result grown.result failed.result read.result
    (push_steps c.args.hand pushed.new.hand pushed.result pushed.ensures.logs pushed.ensures.logs_refusal)
    (growth_steps 2 pushed.new.hand grown.new.hand grown.result grown.ensures.logs grown.ensures.logs_refusal)
    (growth_steps 2 grown.new.hand failed.new.hand failed.result failed.ensures.logs failed.ensures.logs_refusal)
    read.ensures.looks
    size.ensures.logs
