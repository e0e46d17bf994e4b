use Rattle.std.proofs.Common.{◌≡◌, ◌+◌, ◌-◌, ◌<◌, ◌≤◌, [], ap, ◌∙◌, refl, arith}
use Rattle.cell_core.specs.Block.{BlockView, block_len}
use Rattle.cell_core.specs.Run.{RunView, cells_from, members_of}
use Rattle.grow_core.specs.Stretch.{values_from}
use Rattle.grow_core.specs.Token.{place_in}
use Rattle.grow_core.specs.Vector.{layout_of}
use Rattle.grow_core.proofs.Copying.{length-values_from}
use Rattle.grow_core.proofs.Stretches.{run_stretch}
use Rattle.grow_core.proofs.vector.Shared.copy_next.Goals as goal

pub copy_line-row-requires : goal.copy_line-row-requires
copy_line-row-requires g c =
    let n = c.min-n.result in
    let few : n ≤ c.args.left = omega (arith, c.min-n.ensures, c.min.ensures) in
    let room : c.args.place + n ≤ c.args.segment.now.end = omega (arith, c.min-n.ensures, c.min.ensures, c.requires.before) in
    let some : 0 < n = omega (arith, c.min-n.ensures, c.min.ensures, c.requires.some, c.requires.before) in
    (omega arith, (c.requires.ours, ((λ p is_place. c.requires.owned p (is_place.0, omega (arith, is_place.1, few))), ((λ p above below it. c.requires.fresh p above (omega (arith, below, few)) it), (c.requires.segment, (c.requires.row, (c.requires.from, (room, (some, (omega (arith, few, c.requires.values), omega (arith, few, c.requires.small)))))))))))

pub returns-clause-filled : goal.returns-clause-filled
returns-clause-filled g c =
    let v = c.args.self.now in let segment = c.args.segment.now in let key = segment.key in let s = c.requires.segment in
    let offset = c.args.place - segment.from in let n = c.min-n.result in let all = g.S.Source.values c.args.source.now in
    let few : n ≤ c.args.left = omega (arith, c.min-n.ensures, c.min.ensures) in
    let room : c.args.place + n ≤ segment.end = omega (arith, c.min-n.ensures, c.min.ensures, c.requires.before) in
    let some : 0 < n = omega (arith, c.min-n.ensures, c.min.ensures, c.requires.some, c.requires.before) in
    let values = values_from all c.args.first n in
    let pen : RunView g.row.T.Denot = record { offset = offset; cells = cells_from n offset key.block.cells; values = [] } in
    let here : place_in (layout_of v) key.segment offset ≡ c.args.place = omega (arith, s.first, c.requires.from) in
    let within : offset + n ≤ block_len key.block = omega (arith, room, c.requires.from, s.first, s.last, s.long) in
    let many = length-values_from all c.args.first n (omega (arith, few, c.requires.values)) in
    let is = run_stretch v c.args.place values key offset n pen s.key s.long here within (record { at = refl; cells = refl; values = refl }) many in
    let row = c.copy_line-row.ensures.row ∙ ap (λ (b : BlockView). members_of (cells_from n offset b.cells) values) s.block in
    record { is = rw c.again.ensures (rw row is); some = some; few = few }
