use Rattle.book_core.proofs.EventRows.{finish_applies, break_applies}
use Rattle.book_core.proofs.laws.owners_write.Goals as goal

pub returns-clause-fill : goal.returns-clause-fill
returns-clause-fill c = finish_applies

pub returns-clause-spoil : goal.returns-clause-spoil
returns-clause-spoil c = break_applies
