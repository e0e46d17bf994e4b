use Rattle.std.proofs.Common.{sym, arith}
use Rattle.std.proofs.lemmas.List.{length-take, length-take-le}
use Rattle.script_core.proofs.reading.line_of_last_byte.Goals as goal

pub slice_bounds-line_ends-end : goal.slice_bounds-line_ends-end
slice_bounds-line_ends-end c = sym (length-take-le 1048576 c.args.text.now (omega arith))

pub line_ends-requires : goal.line_ends-requires
line_ends-requires c = omega (arith, length-take 1048576 c.args.text.now)

pub overflow_add-result : goal.overflow_add-result
overflow_add-result c = omega (arith, length-take 1048576 c.args.text.now)
