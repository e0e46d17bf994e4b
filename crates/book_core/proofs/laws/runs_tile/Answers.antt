use Rattle.book_core.proofs.Histories.{runs_tile}
use Rattle.book_core.proofs.laws.runs_tile.Goals as goal

pub returns : goal.returns
returns c = runs_tile
