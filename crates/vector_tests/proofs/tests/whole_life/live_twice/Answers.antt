use Rattle.std.proofs.Common.{ℕ, List, Option, sym, subst}
use Rattle.vector_tests.specs.WholeLife.{EndsIn}
use Rattle.vector_tests.proofs.tests.whole_life.live_twice.Goals as goal

pub returns-clause-lives : goal.returns-clause-lives
returns-clause-lives g c = record {
  vector = c.in_ok-vector.vector;
  opened = c.in_ok-vector.ensures.opened;
  begins = c.in_ok-vector.ensures.begins;
  ends =
      subst (λ (members : List (Option ℕ)). EndsIn c.in_ok-vector.vector members) (sym c.in_ok-again.ensures.opened)
      c.live_once-list.ensures.history;
  next = c.in_ok-again.ensures.begins;
}
