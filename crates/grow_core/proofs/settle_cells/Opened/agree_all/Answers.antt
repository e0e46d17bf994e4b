use Rattle.std.proofs.Common.{◌+◌, arith}
use Rattle.grow_core.proofs.FoundFilled.{keeps_more, name_of_placed}
use Rattle.grow_core.proofs.Places.{within_length}
use Rattle.grow_core.proofs.settle_cells.Opened.agree_all.Goals as goal

pub agree-requires : goal.agree-requires
agree-requires g c m there some =
    let i = c.loop-i.i in
    name_of_placed c.args.block.now (c.args.offset + i) m c.token_at-placed.result (c.requires.known i m c.loop-i-test.true there) some c.token_at-placed.ensures.placed

pub loop-i-preserved : goal.loop-i-preserved
loop-i-preserved g c =
    keeps_more c.args.self.now c.args.place c.args.found.now c.loop-i.i c.token_at-placed.result.value c.loop-i.invariant c.agree.ensures c.token_at-placed.ensures.value

pub returns : goal.returns
returns g c i k m at got =
    c.loop-i.invariant i k m (let near = within_length c.args.found.now i m got in omega (arith, near, c.requires.n)) at got
