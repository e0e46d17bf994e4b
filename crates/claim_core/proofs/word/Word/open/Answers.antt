use Rattle.std.proofs.Common.{◌∙◌}
use Rattle.std.proofs.lemmas.Result.{IfOk-weaker}
use Rattle.claim_core.proofs.word.Word.open.Goals as goal

pub returns-clause-filled : goal.returns-clause-filled
returns-clause-filled g c = IfOk-weaker c.open_marked.result _ _ (λ w is. is ∙ c.none.ensures.filled) c.open_marked.ensures.filled
