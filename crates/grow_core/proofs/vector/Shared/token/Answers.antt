use Rattle.std.proofs.Common.{◌+◌, arith}
use Rattle.grow_core.proofs.Cells.{small_cell}
use Rattle.grow_core.proofs.Stretches.{has_value, stretch_token}
use Rattle.grow_core.proofs.vector.Shared.token.Goals as goal

pub overflow_add-stretch : goal.overflow_add-stretch
overflow_add-stretch g c =
    let is = c.requires.stretch.2 in
    let small = small_cell c.args.self.now.segments c.args.stretch.now.key (c.args.stretch.now.offset + c.args.i) is.key is.long (is.members c.args.i c.at.result c.at.ensures).within in
    omega (arith, small.within)

pub placed-requires : goal.placed-requires
placed-requires g c = let s = c.requires.stretch in has_value c.args.self.now s.0 s.1 c.args.stretch.now s.2 c.args.i c.at.result c.at.ensures

pub invariant_of-result : goal.invariant_of-result
invariant_of-result g c =
    let is = c.requires.stretch.2 in let m = is.members c.args.i c.at.result c.at.ensures in
    rw (c.again.ensures) (rw (c.placed.ensures.offset) (small_cell c.args.self.now.segments c.args.stretch.now.key (c.args.stretch.now.offset + c.args.i) is.key is.long m.within))

pub returns : goal.returns
returns g c from values is =
    let cell = c.placed.result in
    rw c.again.ensures (stretch_token c.args.self.now from values c.args.stretch.now is c.args.i c.at.result c.at.ensures cell c.placed.ensures.offset c.placed.ensures.value c.placed.ensures.name)
