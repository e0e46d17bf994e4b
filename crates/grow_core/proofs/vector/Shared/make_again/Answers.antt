use Rattle.std.proofs.lemmas.Result.{err_from_is_err_and}
use Rattle.grow_core.proofs.Claims.{claimed_still}
use Rattle.grow_core.proofs.Made.{left_by_none, won_made}
use Rattle.grow_core.proofs.Wins.{grown_all_logged, stopped_all_logged}
use Rattle.grow_core.proofs.vector.Shared.make_again.Goals as goal

pub returns-in_err-run-clause-asked : goal.returns-in_err-run-clause-asked
returns-in_err-run-clause-asked g c =
    let p = err_from_is_err_and c.from_residual.result c.from_residual.ensures.1 in
    rw (p.1, p.2) (left_by_none (goal.F-step g) c.args.make.now c.in_err-run.field-0.0 c.in_err-run.ensures.unclaimed)

pub returns-clause-won : goal.returns-clause-won
returns-clause-won g c =
    let filled = c.make_run.ensures in
    let old = c.args.hand.now in let mid = c.claim_again.new.hand in let new = c.make_run.new.hand in
    won_made (goal.F-step g) c.args.make.now c.args.self.now c.args.n old new c.in_ok-run.run' c.make_run.result c.make_run.new.make
    (claimed_still old mid new filled.works.keeps c.args.self.now c.args.n c.in_ok-run.run' c.in_ok-run.ensures.claimed) filled.run filled.n filled.tokens filled.made

pub returns-clause-logs : goal.returns-clause-logs
returns-clause-logs g c = grown_all_logged c.args.hand.now c.claim_again.new.hand c.make_run.new.hand c.in_ok-run.run' c.in_ok-run.ensures.logs c.in_ok-run.ensures.new_run c.make_run.ensures.works c.make_run.result c.make_run.ensures.run c.make_run.ensures.adds

pub returns-clause-logs_refusal : goal.returns-clause-logs_refusal
returns-clause-logs_refusal g c =
    stopped_all_logged c.args.hand.now c.claim_again.new.hand c.make_run.new.hand c.in_ok-run.run' c.in_ok-run.ensures.logs c.in_ok-run.ensures.new_run c.make_run.ensures.works c.args.self.now _ c.make_run.result c.in_ok-run.ensures.claimed.n
    c.make_run.ensures.stopped c.make_run.ensures.leaves
