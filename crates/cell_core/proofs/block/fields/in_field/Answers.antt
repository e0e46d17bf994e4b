use Rattle.std.proofs.Common.{arith}
use Rattle.cell_core.proofs.Fields.{is_moved}
use Rattle.cell_core.proofs.block.fields.in_field.Goals as goal

pub overflow_mul-result : goal.overflow_mul-result
overflow_mul-result c = record { fits = omega arith }

pub overflow_shl-result : goal.overflow_shl-result
overflow_shl-result c = omega arith

pub returns : goal.returns
returns c = is_moved c.args.state c.args.offset (omega arith)
