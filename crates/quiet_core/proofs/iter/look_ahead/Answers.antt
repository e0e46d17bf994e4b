use Rattle.std.proofs.Common.{length, Some, ap, drop, arith}
use Rattle.std.proofs.lemmas.List.{length-map, length-take}
use Rattle.quiet_core.proofs.Betweens.{values_lent}
use Rattle.quiet_core.proofs.iter.look_ahead.Goals as goal

pub returns-in-Some-clause-values : goal.returns-in-Some-clause-values
returns-in-Some-clause-values g c = values_lent c.args.parts.now.members c.args.from c.min-n.result c.in-Some.values.now c.in-Some.ensures

pub returns-in-Some-clause-few : goal.returns-in-Some-clause-few
returns-in-Some-clause-few g c =
    let is = ap length c.in-Some.ensures in let long = length-map c.in-Some.values.now (λ x. Some x) in let most = length-take c.min-n.result (drop c.args.from c.args.parts.now.members) in
    omega (arith, is, long, most, c.min-n.ensures, c.requires.some)
