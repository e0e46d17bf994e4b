use Rattle.model_tests.proofs.ClaimedPlaces.{sizes_are_sums, claimed_places_are_held, pending_places_have_one_debtor, histories_name_the_debtor, debtors_own_or_mended, ended_calls_leave_no_debt}
use Rattle.model_tests.proofs.plays.every_play.places_known.Goals as goal

pub returns-clause-sum : goal.returns-clause-sum
returns-clause-sum c = sizes_are_sums c.tiling.ensures

pub returns-clause-held : goal.returns-clause-held
returns-clause-held c = claimed_places_are_held c.tiling.ensures c.stepping.ensures.layout

pub returns-clause-debtor : goal.returns-clause-debtor
returns-clause-debtor c = pending_places_have_one_debtor c.tiling.ensures

pub returns-clause-named : goal.returns-clause-named
returns-clause-named c = histories_name_the_debtor c.tiling.ensures

pub returns-clause-owed : goal.returns-clause-owed
returns-clause-owed c = debtors_own_or_mended c.tiling.ensures

pub returns-clause-left : goal.returns-clause-left
returns-clause-left c = ended_calls_leave_no_debt c.tiling.ensures
