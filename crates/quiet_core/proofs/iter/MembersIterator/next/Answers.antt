use Rattle.std.proofs.Common.{◌≡◌, ◌+◌, ◌<◌, ◌≤◌, length, sym, ◌∙◌, subst, arith, Some}
use Rattle.std.specs.Prelude.{IfSome}
use Rattle.std.specs.Option.{option_copied}
use Rattle.std.proofs.lemmas.Bool.Decides.{nat_tests}
use Rattle.quiet_core.specs.Between.{AreValuesFrom}
use Rattle.quiet_core.proofs.Betweens.{between_next_first, got, value_there}
use Rattle.quiet_core.proofs.iter.MembersIterator.next.Goals as goal

pub invariant_of-self : goal.invariant_of-self
invariant_of-self g c =
    let inside = c.self.inside in let at = c.values_ahead-known_to.ensures in let is = c.in-Some.is in
    let more = subst (λ r. IfSome r (λ t. t.2 < length t.1.now)) is at.more in
    let within = subst (λ r. IfSome r (λ t. t.0 + length t.1.now ≤ inside.to)) is at.within in
    let values = subst (λ r. IfSome r (λ t. AreValuesFrom inside.parts.now.members t.0 t.1.now)) is at.values in
    (omega (arith, more), omega (arith, within), c.self.invariant.2, values)

pub returns-in-Some-clause-steps : goal.returns-in-Some-clause-steps
returns-in-Some-clause-steps g c =
    let inside = c.self.inside in let at = c.values_ahead-known_to.ensures in let is = c.in-Some.is in let here = inside.from + inside.passed in
    let place = subst (λ r. IfSome r (λ t. t.0 + t.2 ≡ here)) is at.place in
    let more = subst (λ r. IfSome r (λ t. t.2 < length t.1.now)) is at.more in
    let within = subst (λ r. IfSome r (λ t. t.0 + length t.1.now ≤ inside.to)) is at.within in
    let values = subst (λ r. IfSome r (λ t. AreValuesFrom inside.parts.now.members t.0 t.1.now)) is at.values in
    sym c.self.view_is ∙ between_next_first inside.parts.now.members here (c.in-Some.from + (c.in-Some.passed + 1)) inside.to (Some c.value_at.result.now) (omega (arith, place, more, within)) (omega (arith, place))
    (value_there inside.parts.now.members c.in-Some.from c.in-Some.passed here c.in-Some.ahead.now _ place c.value_at.ensures values)

pub returns-clause-steps : goal.returns-clause-steps
returns-clause-steps g c =
    let inside = c.self.inside in let place = inside.from + inside.passed in
    let some : place < inside.to = grind (arith, nat_tests) in
    sym c.self.view_is ∙ between_next_first inside.parts.now.members place (place + 1 + 0) inside.to (option_copied c.get-first.result) some (omega arith)
    (got inside.parts.now.members place c.get-first.result c.get-first.ensures)
