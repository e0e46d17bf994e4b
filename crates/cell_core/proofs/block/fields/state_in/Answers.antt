use Rattle.std.proofs.Common.{arith}
use Rattle.cell_core.proofs.Fields.{is_field}
use Rattle.cell_core.proofs.block.fields.state_in.Goals as goal

pub overflow_mul-result : goal.overflow_mul-result
overflow_mul-result c = record { fits = omega arith }

pub overflow_shr-result : goal.overflow_shr-result
overflow_shr-result c = omega arith

pub returns : goal.returns
returns c = is_field c.args.word c.args.offset
