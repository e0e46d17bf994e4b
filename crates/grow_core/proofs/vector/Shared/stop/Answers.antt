use Rattle.std.proofs.Common.{of_calls, arith}
use Rattle.grow_core.proofs.vector.Shared.stop.Goals as goal

pub break_rest-requires : goal.break_rest-requires
break_rest-requires g c =
    (omega arith, (c.requires.ours, (c.requires.owned, (c.requires.fresh, (c.requires.within, (omega (arith, c.requires.fewer), search of_calls))))))
