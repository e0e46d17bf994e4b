use Rattle.std.proofs.Common.{ℕ, subst, arith}
use Rattle.cell_core.specs.Block.{AreAtFilled}
use Rattle.grow_core.proofs.Broken.{filled_count, row_append, stretch_count}
use Rattle.grow_core.proofs.FoundFilled.{settled_found}
use Rattle.grow_core.proofs.Settled.{settled_more}
use Rattle.grow_core.proofs.settle_cells.settle_stretch.Goals as goal

pub returns-then-count-n-clause-settled : goal.returns-then-count-n-clause-settled
returns-then-count-n-clause-settled g c =
    let found = c.filled_row-count in
    settled_found c.args.block.now c.args.offset c.args.opened.now c.args.place c.args.row.now c.append.new.self found.result.1 c.args.epoch.now c.args.n
    c.append.ensures (omega (arith, found.ensures.row, c.if-count-n.true)) found.ensures.filled
    (subst (λ (k : ℕ). AreAtFilled c.args.block.now c.args.offset k) c.if-count-n.true found.ensures.stages) c.agree_all.ensures

pub returns-then-count-n-clause-broken : goal.returns-then-count-n-clause-broken
returns-then-count-n-clause-broken g c =
    let found = c.filled_row-count in
    omega (arith, row_append c.args.row.now found.result.1 c.append.new.self c.append.ensures, filled_count c.args.block.now c.args.offset found.result.1 found.ensures.filled)

pub returns-clause-settled : goal.returns-clause-settled
returns-clause-settled g c =
    let found = c.filled_row-count in let cell = c.settle-member in let count = found.result.0 in
    settled_more c.args.block.now c.args.block.now c.args.offset c.args.opened.now c.args.place c.args.row.now c.append.new.self c.args.epoch.now count
    (settled_found c.args.block.now c.args.offset c.args.opened.now c.args.place c.args.row.now c.append.new.self found.result.1 c.args.epoch.now count
    c.append.ensures found.ensures.row found.ensures.filled found.ensures.stages c.agree_all.ensures)
    cell.new.block c.at-known.result cell.result c.push.new.self c.push.ensures c.at-known.ensures cell.ensures.kept cell.ensures.stage cell.ensures.staged cell.ensures.member cell.ensures.name cell.ensures.broken cell.ensures.len cell.ensures.others

pub returns-clause-broken : goal.returns-clause-broken
returns-clause-broken g c =
    let found = c.filled_row-count in
    omega (arith, c.count_broken.ensures, stretch_count c.args.block.now c.args.offset c.args.row.now found.result.1 c.append.new.self c.push.new.self c.settle-member.result found.ensures.filled c.append.ensures c.push.ensures)
