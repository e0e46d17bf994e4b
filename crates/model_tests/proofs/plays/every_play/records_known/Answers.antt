use Rattle.model_tests.proofs.EndedCalls.{calls_follow_the_programs, answers_are_replies}
use Rattle.model_tests.proofs.WholeRecords.{records_are_whole_at_load, records_are_whole_while_reading}
use Rattle.model_tests.proofs.plays.every_play.records_known.Goals as goal

pub returns-clause-at_load : goal.returns-clause-at_load
returns-clause-at_load c = records_are_whole_at_load c.records.ensures

pub returns-clause-reading : goal.returns-clause-reading
returns-clause-reading c = records_are_whole_while_reading c.records.ensures

pub returns-clause-follow : goal.returns-clause-follow
returns-clause-follow c = calls_follow_the_programs c.records.ensures

pub returns-clause-replied : goal.returns-clause-replied
returns-clause-replied c = answers_are_replies c.records.ensures
