use Rattle.std.proofs.Common.{◌≤◌, ap, arith}
use Rattle.std.specs.Vec.Iter.{into_iter_len}
use Rattle.cell_core.specs.Block.{block_len}
use Rattle.grow_core.proofs.vector.Shared.fill_next.Goals as goal

pub fill_run_tied-requires : goal.fill_run_tied-requires
fill_run_tied-requires g c =
    let s = c.requires.segment in
    let few : c.min-n.result ≤ into_iter_len c.args.values = omega (arith, c.min-n.ensures, c.len.ensures) in
    (omega arith, (c.requires.ours, ((λ p is_place. c.requires.owned p (is_place.0, omega (arith, is_place.1, few))), ((λ p above below it. c.requires.fresh p above (omega (arith, below, few)) it), (s, (c.requires.row, (c.requires.from, (omega (arith, ap block_len s.block, c.longest_run.ensures.within, c.min-n.ensures, s.first, s.last, s.long, c.requires.from), (omega (arith, c.longest_run.ensures.word, c.min-n.ensures), (omega (arith, c.longest_run.ensures.some, c.min-n.ensures, c.requires.some, c.len.ensures), (few, (c.requires.counted))))))))))))
