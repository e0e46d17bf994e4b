use Rattle.std.proofs.Common.{rules, ◌≡◌, ◌∙◌, ap}
use Rattle.std.specs.Prelude.{slice_get}
use Rattle.owner_tests.proofs.vector.pushed_in_one_life.Goals as goal

pub returns-clause-old : goal.returns-clause-old
returns-clause-old c place x there =
    let same : c.in_ok-vector.vector.opened ≡ c.args.list.members = search rules in
    c.close-list.ensures.opened place x (ap (λ ms. slice_get ms place) same ∙ there)
