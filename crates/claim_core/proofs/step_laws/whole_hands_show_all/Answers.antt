use Rattle.claim_core.proofs.TiedLaws.{whole_shows}
use Rattle.claim_core.proofs.step_laws.whole_hands_show_all.Goals as goal

pub returns : goal.returns
returns c = λ terms s id v kept at whole. whole_shows terms s kept id v at whole
