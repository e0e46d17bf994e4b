use Rattle.book_core.proofs.Runs.{writes_of-append}
use Rattle.book_core.proofs.laws.writes_split.Goals as goal

pub returns : goal.returns
returns c = writes_of-append
