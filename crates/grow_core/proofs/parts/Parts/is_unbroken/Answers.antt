use Rattle.std.proofs.Common.{◌≡◌, ◌<◌, List, Option, ap, subst, arith}
use Rattle.std.proofs.lemmas.Bool.Decides.{nat_tests}
use Rattle.grow_core.specs.Parts.{PartsView, values_in}
use Rattle.grow_core.specs.PopSegment.{IsUnbroken}
use Rattle.grow_core.specs.Slices.{HasBroken}
use Rattle.grow_core.proofs.Broken.{none_counted, some_counted}
use Rattle.grow_core.proofs.parts.Parts.is_unbroken.Goals as goal

pub returns-clause-none : goal.returns-clause-none
returns-clause-none g c is =
    let p = c.self.inside in let counted = c.self.invariant.3 in let low : p.broken ≡ 0 = grind (arith, nat_tests, is) in
    subst (λ (ms : List (Option g.row.T.Denot)). IsUnbroken ms) (ap (λ (v : PartsView g.row.T.Denot). v.members) c.self.view_is) (none_counted (values_in p.row) (omega (arith, low, counted)))

pub returns-clause-some : goal.returns-clause-some
returns-clause-some g c is =
    let p = c.self.inside in let counted = c.self.invariant.3 in let high : 0 < p.broken = grind (arith, nat_tests, is) in
    subst (λ (ms : List (Option g.row.T.Denot)). HasBroken ms) (ap (λ (v : PartsView g.row.T.Denot). v.members) c.self.view_is) (some_counted (values_in p.row) (omega (arith, high, counted)))
