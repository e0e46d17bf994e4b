use Rattle.book_core.proofs.Histories.{runs_are_apart}
use Rattle.book_core.proofs.Runs.{runs_of-append}
use Rattle.book_core.proofs.laws.runs_split.Goals as goal

pub returns-clause-split : goal.returns-clause-split
returns-clause-split c = runs_of-append

pub returns-clause-apart : goal.returns-clause-apart
returns-clause-apart c = runs_are_apart
