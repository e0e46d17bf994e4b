-- what was played, and then what is left to play, is all of it
use Rattle.std.proofs.Common.{◌≡◌, drop, length}
use Rattle.book_core.specs.Commands.{HaveActors}
use Rattle.step_core.specs.calls.Play.{with_items}
use Rattle.step_core.proofs.calls.schedule.CallPlay.play_items.Given as goal

abbrev pub invariant-loop-item : goal.invariant-loop-item
invariant-loop-item l = record {
  so_far : with_items l.programs l.self (drop l.item-index l.items) ≡ with_items l.programs l.fn.self l.items;
  actors : HaveActors (length l.programs) l.self.ended;
  counted : length l.self.counts ≡ length l.programs;
}
