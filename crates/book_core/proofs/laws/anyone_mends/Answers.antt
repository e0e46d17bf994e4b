use Rattle.book_core.proofs.EventRows.{mend_applies}
use Rattle.book_core.proofs.laws.anyone_mends.Goals as goal

pub returns : goal.returns
returns c = mend_applies
