use Rattle.model_tests.proofs.PlacesLater.{answered_places_keep_the_value, broken_places_of_headline_wait}
use Rattle.model_tests.proofs.plays.every_play.values_known_by_the_headline.Goals as goal

pub returns-clause-answered : goal.returns-clause-answered
returns-clause-answered c = answered_places_keep_the_value c.finishes_fill.ensures c.interleavings.ensures

pub returns-clause-broken : goal.returns-clause-broken
returns-clause-broken c = broken_places_of_headline_wait c.interleavings.ensures
