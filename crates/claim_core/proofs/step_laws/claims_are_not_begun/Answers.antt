use Rattle.claim_core.proofs.TiedLaws.{claim_not_begun}
use Rattle.claim_core.proofs.step_laws.claims_are_not_begun.Goals as goal

pub returns : goal.returns
returns c = λ v w found n place event consistent claims after there. claim_not_begun v w found n event consistent claims place after there
