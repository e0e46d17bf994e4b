use Rattle.std.proofs.Common.{arith}
use Rattle.seg_core.proofs.Doubling.{least_end}
use Rattle.seg_core.proofs.layout.Layout.capacity_for.Goals as goal

pub returns-clause-least : goal.returns-clause-least
returns-clause-least c some k room = omega (arith, least_end _ _ _ k c.locate-last.ensures.segment some room)
