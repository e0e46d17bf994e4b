use Rattle.model_tests.proofs.TraceRows.{items_have_their_rows}
use Rattle.model_tests.proofs.plays.every_play.traces_known.Goals as goal

pub returns : goal.returns
returns c = items_have_their_rows c.traces.ensures
