use Rattle.book_core.proofs.Histories.{filled_cells_stay, broken_cells_stay}
use Rattle.book_core.proofs.laws.finished_cells_stay.Goals as goal

pub returns-clause-filled : goal.returns-clause-filled
returns-clause-filled c = filled_cells_stay

pub returns-clause-broken : goal.returns-clause-broken
returns-clause-broken c = broken_cells_stay
