use Rattle.std.proofs.Common.{◌+◌, ◌-◌, ◌<◌, sym, ◌∙◌, arith}
use Rattle.std.specs.Option.{option_copied}
use Rattle.std.proofs.lemmas.Bool.Decides.{nat_tests}
use Rattle.quiet_core.proofs.Betweens.{between_last, got}
use Rattle.quiet_core.proofs.iter.MembersDoubleEndedIterator.next_back.Goals as goal

pub returns-clause-steps : goal.returns-clause-steps
returns-clause-steps g c =
    let inside = c.self.inside in let few = c.self.invariant.0 in let order = c.self.invariant.1 in
    let some : inside.from + inside.passed < inside.to = grind (arith, nat_tests) in
    sym c.self.view_is ∙ between_last inside.parts.now.members (inside.from + inside.passed) inside.to (option_copied c.get.result) some
    (got inside.parts.now.members (inside.to - 1) c.get.result c.get.ensures)
