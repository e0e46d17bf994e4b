use Rattle.model_tests.proofs.PlacesLater.{mended_places_are_the_menders, menders_values_stay, answered_places_by_parts, broken_places_wait}
use Rattle.model_tests.proofs.Fillers.{filled_places_have_one_filler}
use Rattle.model_tests.proofs.plays.every_play.values_known.Goals as goal

pub returns-clause-fillers : goal.returns-clause-fillers
returns-clause-fillers c = filled_places_have_one_filler c.values_have_one_writer.ensures.cells c.legal.ensures

pub returns-clause-mended : goal.returns-clause-mended
returns-clause-mended c = mended_places_are_the_menders c.tiling.ensures

pub returns-clause-menders : goal.returns-clause-menders
returns-clause-menders c = menders_values_stay c.finishes_fill.ensures c.tiling.ensures c.legal.ensures c.kept.ensures.filled

pub returns-clause-answered : goal.returns-clause-answered
returns-clause-answered c = answered_places_by_parts c.finishes_fill.ensures c.records.ensures c.legal.ensures c.kept.ensures.filled

pub returns-clause-broken : goal.returns-clause-broken
returns-clause-broken c = broken_places_wait c.kept.ensures.broken
