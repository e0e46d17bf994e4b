use Rattle.script_core.proofs.ScriptSpelling.{found_by, only_by, limit_by, layout_by, names_by, sound_by, actors_by}
use Rattle.script_core.proofs.reading.read.Goals as goal

pub returns-clause-found : goal.returns-clause-found
returns-clause-found c = found_by c.read_whole.result c.args.text.now c.read_whole.ensures

pub returns-clause-only : goal.returns-clause-only
returns-clause-only c = only_by c.read_whole.result c.args.text.now c.read_whole.ensures

pub returns-clause-limit : goal.returns-clause-limit
returns-clause-limit c = limit_by c.read_whole.result c.args.text.now c.read_whole.ensures

pub returns-clause-first : goal.returns-clause-first
returns-clause-first c = layout_by c.read_whole.result c.args.text.now c.read_whole.ensures

pub returns-clause-names : goal.returns-clause-names
returns-clause-names c = names_by c.read_whole.result c.args.text.now c.read_whole.ensures

pub returns-clause-sound : goal.returns-clause-sound
returns-clause-sound c = sound_by c.read_whole.result c.args.text.now c.read_whole.ensures

pub returns-clause-actors : goal.returns-clause-actors
returns-clause-actors c = actors_by c.read_whole.result c.args.text.now c.read_whole.ensures
