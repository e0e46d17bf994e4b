use Rattle.model_tests.proofs.CallSteps.{few_steps_of}
use Rattle.model_tests.proofs.LaterRuns.{later_runs_of}
use Rattle.model_tests.proofs.PushPlaces.{pushes_of}
use Rattle.model_tests.proofs.ReadValues.{reads_of}
use Rattle.model_tests.proofs.plays.uses.play_known.Goals as goal

pub returns-clause-apart : goal.returns-clause-apart
returns-clause-apart c = pushes_of c.play_in.result c.args.layout c.args.limit c.args.programs c.args.items.now c.writes_split.ensures c.interleavings.ensures c.play_in.ensures.played c.play_in.ensures.layout c.play_in.ensures.limit c.play_in.ensures.sound

pub returns-clause-writers : goal.returns-clause-writers
returns-clause-writers c = reads_of c.play_in.result c.args.layout c.args.limit c.args.programs c.args.items.now c.interleavings.ensures c.values_have_one_writer.ensures.looks c.play_in.ensures.played c.play_in.ensures.layout c.play_in.ensures.limit c.play_in.ensures.sound

pub returns-clause-past : goal.returns-clause-past
returns-clause-past c = later_runs_of c.play_in.result c.args.layout c.args.limit c.args.programs c.args.items.now c.histories_split.ensures c.runs_split.ensures.apart c.interleavings.ensures c.play_in.ensures.played c.play_in.ensures.layout c.play_in.ensures.limit c.play_in.ensures.sound

pub returns-clause-few : goal.returns-clause-few
returns-clause-few c = few_steps_of c.play_in.result c.args.layout c.args.limit c.args.programs c.args.items.now c.runs_split.ensures.split c.work.ensures c.play_in.ensures.played c.play_in.ensures.layout c.play_in.ensures.limit
