use Rattle.book_core.proofs.Histories.{histories_split}
use Rattle.book_core.proofs.laws.histories_split.Goals as goal

pub returns : goal.returns
returns c = histories_split
