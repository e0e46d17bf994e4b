use Rattle.std.proofs.Common.{◌≡◌, [], length}
use Rattle.script_core.specs.Grammar.{try_each, parsed_item, words}
use Rattle.script_core.proofs.items.parse_some_items.Given as goal

abbrev pub invariant-loop-text : goal.invariant-loop-text
invariant-loop-text l = try_each (parsed_item l.names) 100000 l.items.items (words l.text) ≡ try_each (parsed_item l.names) 100000 [] (words l.fn.text)

abbrev pub decreases-loop-text : goal.decreases-loop-text
decreases-loop-text l = length l.text
