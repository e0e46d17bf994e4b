-- the text has the items so far
use Rattle.std.proofs.Common.{◌≡◌, ◌++◌, take}
use Rattle.std.specs.List.{flat_map}
use Rattle.script_core.specs.Spelling.{item_text}
use Rattle.cvec.specs.Schedule.{letters}
use Rattle.cvec.proofs.schedule.push_items.Given as goal

abbrev pub invariant-loop-item : goal.invariant-loop-item
invariant-loop-item l = l.text.items ≡ l.fn.text.items ++ flat_map (item_text letters) (take l.item-index l.items)
