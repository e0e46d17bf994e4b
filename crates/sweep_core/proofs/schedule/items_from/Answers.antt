use Rattle.std.proofs.Common.{arith}
use Rattle.sweep_core.proofs.Sampled.{one_more, all_made}
use Rattle.sweep_core.proofs.schedule.items_from.Goals as goal

pub loop-more-preserved : goal.loop-more-preserved
loop-more-preserved c =
    one_more c.args.len c.loop-more._more c.loop-more.items.items c.push.new.self.items _ c.loop-more.words c.next_word.new.self c.next_word.result
    (omega (arith, c.loop-more-test.true)) c.loop-more.invariant c.next_word.ensures (rw (← c.item_of.ensures) c.in_ok-push.ensures.items)

pub returns : goal.returns
returns c =
    all_made c.args.len c.loop-more._more c.loop-more.items.items _ c.loop-more.words (omega (arith, c.loop-more-test.false)) c.loop-more.invariant
