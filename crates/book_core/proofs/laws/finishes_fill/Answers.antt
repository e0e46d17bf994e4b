use Rattle.book_core.proofs.Histories.{finishes_fill}
use Rattle.book_core.proofs.laws.finishes_fill.Goals as goal

pub returns : goal.returns
returns c = finishes_fill
