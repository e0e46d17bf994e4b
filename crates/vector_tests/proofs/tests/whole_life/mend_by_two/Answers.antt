use Rattle.std.proofs.Common.{rules}
use Rattle.vector_tests.proofs.WholeLife.{kept_if_any}
use Rattle.vector_tests.proofs.tests.whole_life.mend_by_two.Goals as goal

pub returns-clause-one : goal.returns-clause-one
returns-clause-one g c =
    kept_if_any c.args.vector.now _ c.join.new.hand 6 _ (search rules) c.join.ensures.begins c.join.ensures.begins_log c.join-all.ensures.first.1.1

pub returns-clause-other : goal.returns-clause-other
returns-clause-other g c =
    kept_if_any c.args.vector.now _ c.join.new.hand 7 _ (search rules) c.join.ensures.also_begins c.join.ensures.also_begins_log
    c.join-all.ensures.second.1.1
