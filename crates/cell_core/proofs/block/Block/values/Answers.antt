use Rattle.std.proofs.Common.{sym, ap, ◌∙◌, subst, length, arith}
use Rattle.cell_core.specs.Block.{BlockView, AreFilledFrom, block_len}
use Rattle.cell_core.proofs.SliceParts.{EachHasOne, values_of, values_are}
use Rattle.cell_core.proofs.block.Block.values.Goals as goal

pub values-requires : goal.values-requires
values-requires g c =
    let laid = c.self.inside.laid in let offset = c.args.offset in
    let filled = subst (λ (b : BlockView). AreFilledFrom b offset c.args.row.now) (sym c.self.view_is) c.requires.filled in
    let each = subst (λ ms. EachHasOne laid.cells offset ms) (sym c.row.view_is) (λ i m h. ((filled i m h).0.known, (filled i m h).1)) in
    let got = values_of laid.cells offset c.row.inside.row.of each in
    let long = ap length c.row.view_is in (
      c.self.invariant.1.0,
      c.self.invariant.2.0,
      omega (arith, ap block_len c.self.view_is, c.requires.within),
      (got.0, got.1 ∙ long ∙ c.requires.n, got.2),
    )

pub returns : goal.returns
returns g c =
    values_are c.self.inside.laid.cells c.args.offset c.args.row.now c.values.result.now (rw (← c.row.view_is) c.values.ensures)
