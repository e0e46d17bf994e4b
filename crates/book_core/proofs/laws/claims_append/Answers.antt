use Rattle.book_core.proofs.EventRows.{claims_append}
use Rattle.book_core.proofs.laws.claims_append.Goals as goal

pub returns : goal.returns
returns c = claims_append
