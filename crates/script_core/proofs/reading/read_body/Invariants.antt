use Rattle.std.proofs.Common.{◌≡◌, ◌+◌, ◌≤◌, [], length}
use Rattle.script_core.specs.Grammar.{body_of, lines}
use Rattle.script_core.proofs.reading.read_body.Given as goal

abbrev pub invariant-loop-text : goal.invariant-loop-text
invariant-loop-text l = record {
  so_far : body_of l.limit l.first l.line l.names.items l.programs.items (lines l.text) ≡ body_of l.limit l.first l.fn.line [] [] (lines l.fn.text);
  few_lines : l.line + length l.text ≤ 1048578;
  few_names : length l.names.items ≤ 16;
}

abbrev pub decreases-loop-text : goal.decreases-loop-text
decreases-loop-text l = length l.text
