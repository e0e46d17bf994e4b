use Rattle.std.proofs.Common.{◌<◌, arith}
use Rattle.seg_core.proofs.Doubling.{doubles}
use Rattle.seg_core.proofs.layout.Layout.len.Goals as goal

pub returns-else-k-eq0 : goal.returns-else-k-eq0
returns-else-k-eq0 c =
    let some : 0 < c.args.k = omega (arith, c.if-k-eq0.false) in
    omega (arith, doubles c.args.self c.args.k some, c.first-first.ensures)
