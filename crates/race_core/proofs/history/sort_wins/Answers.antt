use Rattle.std.proofs.Common.{◌<◌, get_or, arith}
use Rattle.race_core.specs.declared.team.Win.{Win}
use Rattle.race_core.proofs.Wins.{all_put, at_index}
use Rattle.race_core.proofs.history.sort_wins.Goals as goal

pub returns : goal.returns
returns c = all_put c.args.size c.args.wins.now c.loop-win.win-index c.loop-win.slots.items c.loop-win-test.false c.requires.all c.loop-win.invariant

pub index_mut-requires : goal.index_mut-requires
index_mut-requires c =
    let win : Win = get_or c.args.wins.now c.loop-win.win-index (record { worker = 0; place = 0; value = 0 }) in
    let near : win.place < c.args.size = c.requires.below win (at_index c.args.wins.now c.loop-win.win-index _ c.loop-win-test.true) in
    let long = c.loop-win.invariant.long in
    omega (arith, near, long)
