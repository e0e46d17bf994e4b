-- By the public clauses of `exchange` and `meet`, and the public laws.
use Rattle.std.proofs.Common.{◌≡◌, sym, subst}
use mathlib.Core.List.{IsPrefix}
use Rattle.claim_core.specs.declared.run.Run.{Run}
use Rattle.claim_core.specs.Hand.{HandView, HasSeen, OwnsRun}
use Rattle.claim_core.specs.Laws.{SeenRunsStay}
use Rattle.memory_tests.proofs.claim.uses.claim_two.Goals as goal

-- another hand has seen the run too
has_seen : SeenRunsStay → (old new : HandView) (run : Run) → new.of ≡ old.of → IsPrefix old.seen new.seen
    → OwnsRun old run → HasSeen new run
has_seen stay old new run of more owns = (owns.0, stay old new owns.0 run of more owns.2)

pub returns-clause-disjoint : goal.returns-clause-disjoint
returns-clause-disjoint g c =
    let met = c.meet.ensures in
    let a = c.claim_one.new.hand in
    let b = c.claim_one-2.new.hand in
    let same_word : c.meet.new.b.of ≡ c.meet.new.a.of = cc (met.own.of, met.also_own.of, c.in_ok-first.ensures.of, c.in_ok-second.ensures.of) in
    c.owners_are_apart.ensures c.meet.new.a c.meet.new.b c.in_ok-first.first c.in_ok-second.second same_word met.same met.apart
    (c.own_runs_stay.ensures a c.meet.new.a c.in_ok-first.first met.own met.begins c.in_ok-first.ensures.owned)
    (c.own_runs_stay.ensures b c.meet.new.b c.in_ok-second.second met.also_own (subst (λ s. IsPrefix b.seen s) (sym met.same) met.also_begins) c.in_ok-second.ensures.owned)

pub returns-clause-seen : goal.returns-clause-seen
returns-clause-seen g c =
    let met = c.meet.ensures in
    let a = c.claim_one.new.hand in
    let b = c.claim_one-2.new.hand in (
      has_seen c.seen_runs_stay.ensures a c.meet.new.a c.in_ok-first.first met.own.of met.begins c.in_ok-first.ensures.owned,
      has_seen c.seen_runs_stay.ensures b c.meet.new.a c.in_ok-second.second (cc (met.own.of, c.in_ok-first.ensures.of, c.in_ok-second.ensures.of)) met.also_begins c.in_ok-second.ensures.owned,
    )

pub returns-clause-also_seen : goal.returns-clause-also_seen
returns-clause-also_seen g c =
    let met = c.meet.ensures in
    let a = c.claim_one.new.hand in
    let b = c.claim_one-2.new.hand in (
      has_seen c.seen_runs_stay.ensures a c.meet.new.b c.in_ok-first.first (cc (met.also_own.of, c.in_ok-first.ensures.of, c.in_ok-second.ensures.of)) (subst (λ s. IsPrefix a.seen s) (sym met.same) met.begins) c.in_ok-first.ensures.owned,
      has_seen c.seen_runs_stay.ensures b c.meet.new.b c.in_ok-second.second met.also_own.of (subst (λ s. IsPrefix b.seen s) (sym met.same) met.also_begins) c.in_ok-second.ensures.owned,
    )
