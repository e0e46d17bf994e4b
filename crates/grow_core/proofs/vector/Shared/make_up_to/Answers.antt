use Rattle.std.proofs.Common.{subst, arith}
use Rattle.grow_core.specs.AtLeast.{ReachesSize, IsNewIn}
use Rattle.grow_core.specs.Logs.{LogsReached}
use Rattle.grow_core.proofs.Stopped.{refused_up_to}
use Rattle.grow_core.proofs.Claims.{claimed_still}
use Rattle.grow_core.proofs.Made.{won_up_to}
use Rattle.grow_core.proofs.Wins.{ran_of, stopped_up_to_of}
use Rattle.grow_core.proofs.vector.Shared.make_up_to.Goals as goal

pub returns-in-Err-clause-refused : goal.returns-in-Err-clause-refused
returns-in-Err-clause-refused g c =
    let v = c.args.self.now in let old = c.args.hand.now in let mid = c.claim_up_to.new.hand in let new = c.make_run.new.hand in let run = c.in-Won.run' in
    let reached = subst (λ r. ReachesSize v c.args.size old mid r) c.in-Won.is c.in_ok-size.ensures.reached in
    refused_up_to v c.args.size old new run c.in-Err.refused
    (reached.0, reached.1, claimed_still old mid new c.make_run.ensures.works.keeps v run.n run reached.2) c.in-Err.ensures.stopped

pub returns-in-Ok-clause-won : goal.returns-in-Ok-clause-won
returns-in-Ok-clause-won g c =
    let v = c.args.self.now in let old = c.args.hand.now in let mid = c.claim_up_to.new.hand in let new = c.make_run.new.hand in let run = c.in-Won.run' in
    let reached = subst (λ r. ReachesSize v c.args.size old mid r) c.in-Won.is c.in_ok-size.ensures.reached in
    won_up_to (goal.F-step g) c.args.make.now v c.args.size old new run c.in-Ok.grown c.make_run.new.make
    (reached.0, reached.1, claimed_still old mid new c.make_run.ensures.works.keeps v run.n run reached.2)
    c.in-Ok.ensures.run c.in-Ok.ensures.n c.in-Ok.ensures.tokens c.in-Ok.ensures.made

pub returns-in-Ok-clause-logs : goal.returns-in-Ok-clause-logs
returns-in-Ok-clause-logs g c =
    let old = c.args.hand.now in let mid = c.claim_up_to.new.hand in
    let reached = subst (λ r. ReachesSize c.args.self.now c.args.size old mid r) c.in-Won.is c.in_ok-size.ensures.reached in
    let claimed = subst (λ r. LogsReached c.args.size old mid r) c.in-Won.is c.in_ok-size.ensures.logs in
    let is_new = subst (λ r. IsNewIn mid r) c.in-Won.is c.in_ok-size.ensures.new_run in
    ran_of old mid c.make_run.new.hand c.args.size c.in-Won.run' claimed (omega (arith, reached)) is_new c.make_run.ensures.works
    c.in-Ok.grown.run c.in-Ok.ensures.run c.in-Ok.ensures.adds

pub returns-in-Err-clause-logs_refusal : goal.returns-in-Err-clause-logs_refusal
returns-in-Err-clause-logs_refusal g c =
    let old = c.args.hand.now in let mid = c.claim_up_to.new.hand in
    let reached = subst (λ r. ReachesSize c.args.self.now c.args.size old mid r) c.in-Won.is c.in_ok-size.ensures.reached in
    let claimed = subst (λ r. LogsReached c.args.size old mid r) c.in-Won.is c.in_ok-size.ensures.logs in
    let is_new = subst (λ r. IsNewIn mid r) c.in-Won.is c.in_ok-size.ensures.new_run in
    stopped_up_to_of old mid c.make_run.new.hand c.args.size c.in-Won.run' claimed (omega (arith, reached)) is_new c.make_run.ensures.works
    c.args.self.now c.in-Err.refused reached.0 c.in-Err.ensures.stopped c.in-Err.ensures.leaves
