-- what was played, and then what is left to play, is all of it; and each step counts once
use Rattle.std.proofs.Common.{◌≡◌, drop}
use Rattle.step_core.specs.machine.Tallies.{tally_items, AreWithin}
use Rattle.step_core.proofs.machine.counts.CountedPlay.play.Given as goal

abbrev pub invariant-loop-item : goal.invariant-loop-item
invariant-loop-item l = record {
  played : tally_items l.self (drop l.item-index l.items) ≡ tally_items l.fn.self l.items;
  counted : AreWithin l.item-index l.self.tallies;
}
