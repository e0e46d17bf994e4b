use Rattle.std.proofs.Common.{◌∙◌, arith}
use Rattle.script_core.proofs.ItemWords.{item_alone, item_marked}
use Rattle.script_core.proofs.items.parse_item.Goals as goal

pub returns-in-len1 : goal.returns-in-len1
returns-in-len1 c = c.item_of_actor.ensures ∙ item_alone c.args.names.now c.args.word.now (omega arith)

pub returns-in-33 : goal.returns-in-33
returns-in-33 c = c.item_of_actor-in-33.ensures ∙ item_marked c.args.names.now c.args.word.now (omega arith) (omega arith)
