use Rattle.seg_core.proofs.Doubling.{segment_of_has, one_segment, one_place}
use Rattle.seg_core.proofs.laws.places.Goals as goal

pub returns-clause-located : goal.returns-clause-located
returns-clause-located c = segment_of_has

pub returns-clause-one_segment : goal.returns-clause-one_segment
returns-clause-one_segment c = one_segment

pub returns-clause-one_place : goal.returns-clause-one_place
returns-clause-one_place c = one_place
