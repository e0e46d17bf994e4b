use Rattle.std.proofs.Common.{◌∙◌}
use Rattle.caller_core.proofs.Cases.{of_both}
use Rattle.caller_core.proofs.read.copy_at.Goals as goal

pub returns-in_err-at-clause-own : goal.returns-in_err-at-clause-own
returns-in_err-at-clause-own g c x last =
    absurd (of_both c.token_of.result (λ token value none. none) (c.token_of.ensures.of x last) c.in_err-at.ensures.known)

pub returns-clause-own : goal.returns-clause-own
returns-clause-own g c x last =
    of_both c.token_of.result (λ token value same. same ∙ value) (c.token_of.ensures.of x last) c.in_ok-at.ensures.known
