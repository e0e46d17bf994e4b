use Rattle.std.proofs.Common.{◌≡◌, length}
use Rattle.script_core.specs.Grammar.{try_each, parsed_command, words, pieces, parsed_program}
use Rattle.script_core.proofs.command.parse_program.Given as goal

abbrev pub invariant-loop-text : goal.invariant-loop-text
invariant-loop-text l = try_each (λ piece. parsed_command (words piece)) 1000 l.commands.items (pieces l.text) ≡ parsed_program l.fn.text

abbrev pub decreases-loop-text : goal.decreases-loop-text
decreases-loop-text l = length l.text
