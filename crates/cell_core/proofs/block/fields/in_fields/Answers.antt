use Rattle.std.proofs.Common.{arith}
use Rattle.cell_core.proofs.RunFields.{are_moved}
use Rattle.cell_core.proofs.block.fields.in_fields.Goals as goal

pub overflow_shr-low : goal.overflow_shr-low
overflow_shr-low c = let r = c.requires in omega arith

pub returns : goal.returns
returns c = are_moved c.args.state c.args.n c.args.offset c.requires.0 c.requires.2
