use Rattle.std.proofs.Common.{false}
use Rattle.step_core.proofs.atomic_steps.Tallies.{item_played, item_within}
use Rattle.step_core.proofs.machine.counts.CountedPlay.play.Goals as goal

pub loop-item-preserved : goal.loop-item-preserved
loop-item-preserved c = record {
  played = item_played c.loop-item.self c.play_item.new.self _ c.args.items.now c.loop-item.item-index _ c.loop-item-test.true c.loop-item.invariant.played c.in_ok-play_item.ensures;
  counted = item_within c.loop-item.self c.play_item.new.self c.args.items.now c.loop-item.item-index (record { actor = 0; memory = false }) c.loop-item.item-index c.loop-item.invariant.counted c.in_ok-play_item.ensures;
}
