use Rattle.claim_core.proofs.Belongs.{first_held}
use Rattle.claim_core.proofs.word.first_hand.Goals as goal

pub around-requires : goal.around-requires
around-requires c = first_held c.args.terms.now c.requires.bounds c.requires.first
