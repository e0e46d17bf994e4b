use Rattle.std.proofs.Common.{arith}
use Rattle.cell_core.proofs.RunFields.{finds_filled, finds_other}
use Rattle.cell_core.proofs.block.fields.filled_in.Goals as goal

pub returns : goal.returns
returns c = (omega arith, finds_filled c.args.word c.args.offset _ c.ranges.word.fits (omega arith), λ less. finds_other c.args.word c.args.offset _ c.ranges.word.fits (omega (arith, less)))
