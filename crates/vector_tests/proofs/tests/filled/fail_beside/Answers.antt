use Rattle.std.proofs.Common.{rules, ℕ, subst, sym}
use Rattle.std.specs.Prelude.{IfSome}
use mathlib.Core.List.{IsPrefix}
use Rattle.claim_core.specs.Hand.{HandView, OwnsRun}
use Rattle.grow_core.specs.Growth.{single}
use Rattle.grow_core.specs.Logs.{IsFinishedIn}
use Rattle.vector_tests.specs.Filled.{OwnsRefused}
use Rattle.vector_tests.proofs.Filled.{apart_if_met, still_finished}
use Rattle.vector_tests.proofs.tests.filled.fail_beside.Goals as goal

pub returns-clause-filled : goal.returns-clause-filled
returns-clause-filled g c =
    let pushed : HandView = c.join-placed.result.0.0 in
    let filled : IsFinishedIn pushed.log c.in-Some.placed.place = subst (λ o. IfSome o (λ p. IsFinishedIn pushed.log p.place)) c.in-Some.is c.join-placed.ensures.first.1.1.0 in
    still_finished pushed.log c.meet.new.a.log c.in-Some.placed.place filled c.meet.ensures.begins_log

pub returns-clause-beside : goal.returns-clause-beside
returns-clause-beside g c =
    let pushed : HandView = c.join-placed.result.0.0 in let failed : HandView = c.join-placed.result.1.0 in
    let a : HandView = c.meet.new.a in let b : HandView = c.meet.new.b in
    let place : ℕ = c.in-Some.placed.place in
    let owned : OwnsRun pushed (single place) = subst (λ o. IfSome o (λ p. OwnsRun pushed (single p.place))) c.in-Some.is c.join-placed.ensures.first.1.0 in
    let refused : OwnsRefused failed c.in-Some-failed.refused = subst (λ o. IfSome o (OwnsRefused failed)) c.in-Some-failed.is c.join-placed.ensures.second.1 in
    let seen_b = subst (IsPrefix failed.seen) (sym c.meet.ensures.same) c.meet.ensures.also_begins in
    apart_if_met c.owners_are_apart.ensures c.own_runs_stay.ensures a b pushed failed place c.in-Some-failed.refused c.meet.ensures.own c.meet.ensures.begins
    c.meet.ensures.also_own seen_b (search rules) c.meet.ensures.same c.meet.ensures.apart owned refused
