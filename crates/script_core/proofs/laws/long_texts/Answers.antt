use Rattle.script_core.proofs.LongTexts.{script_of-take}
use Rattle.script_core.proofs.laws.long_texts.Goals as goal

pub returns : goal.returns
returns c = script_of-take
