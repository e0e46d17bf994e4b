-- By the public clauses of the offer.
use Rattle.memory_tests.proofs.InOrder.{one_view}
use Rattle.memory_tests.proofs.ties.fixed.has_value_as_told.Goals as goal

pub returns-clause-view : goal.returns-clause-view
returns-clause-view c = one_view _ _ c.back.new.badge.views c.back.ensures.view
