use Rattle.book_core.proofs.Histories.{after_next}
use Rattle.book_core.proofs.history.check.Goals as goal

pub loop-row-preserved : goal.loop-row-preserved
loop-row-preserved c = record { so_far = after_next _ _ _ _ _ _ c.loop-row-test.true c.loop-row.invariant.so_far (c.in_ok-apply_with_reply.ensures.yes c.if-not-branch.false) }
