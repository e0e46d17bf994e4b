use Rattle.std.proofs.Common.{ℕ, refl, subst}
use Rattle.grow_core.specs.Logs.{LogsRead}
use Rattle.vector_tests.proofs.Filled.{found_read, missed_read}
use Rattle.vector_tests.proofs.tests.filled.find.Goals as goal

pub returns-in-Ok-clause-looks : goal.returns-in-Ok-clause-looks
returns-in-Ok-clause-looks c =
    found_read c.args.place c.args.hand.now c.at.new.hand c.in-Ok.at.placed
    (subst (λ r. LogsRead c.args.place c.args.hand.now c.at.new.hand r) c.in-Ok.is (c.at.ensures.looks refl))

pub returns-in-Err-clause-looks : goal.returns-in-Err-clause-looks
returns-in-Err-clause-looks c =
    missed_read ℕ c.args.place c.args.hand.now c.at.new.hand _
    (subst (λ r. LogsRead c.args.place c.args.hand.now c.at.new.hand r) c.in-Err.is (c.at.ensures.looks refl))
