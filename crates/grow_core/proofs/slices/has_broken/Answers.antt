use Rattle.std.proofs.Common.{◌+◌, refl, arith}
use Rattle.grow_core.proofs.Broken.{unbroken_more, value_known}
use Rattle.grow_core.proofs.Places.{broken_at}
use Rattle.grow_core.proofs.Sides.{is_broken}
use Rattle.grow_core.specs.Parts.{values_in}
use Rattle.grow_core.proofs.slices.has_broken.Goals as goal

pub returns-then-broken-eq0-clause-none : goal.returns-then-broken-eq0-clause-none
returns-then-broken-eq0-clause-none g c _ i m less at =
    value_known c.args.row.now (c.args.place + i) m (omega (arith, c.requires.broken, c.if-broken-eq0.true)) at

pub member-requires-clause-member : goal.member-requires-clause-member
member-requires-clause-member g c = c.requires.known c.loop-i.i c.at-member.result c.loop-i-test.true c.at-member.ensures

pub member-requires-clause-epoch : goal.member-requires-clause-epoch
member-requires-clause-epoch g c = broken_at c.args.epoch.now c.args.row.now (c.args.place + c.loop-i.i) c.at-member.result c.requires.epoch c.at-member.ensures

pub returns-in-None-clause-some : goal.returns-in-None-clause-some
returns-in-None-clause-some g c is =
    is_broken (values_in c.args.row.now) c.args.row.now refl c.args.place c.loop-i.i c.at-member.result c.at-member.ensures c.args.n c.loop-i-test.true c.in-None.ensures.value

pub loop-i-preserved : goal.loop-i-preserved
loop-i-preserved g c =
    unbroken_more c.args.row.now c.args.place c.loop-i.i c.at-member.result _ c.at-member.ensures c.in-Some.ensures.value c.loop-i.invariant
