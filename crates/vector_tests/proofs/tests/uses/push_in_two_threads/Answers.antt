-- By the public clauses of `meet`, and the public laws.
use Rattle.std.proofs.Common.{◌≡◌, ℕ, IfSome, ◌∙◌, sym, subst}
use Rattle.std.specs.declared.option.Option.{Option}
use mathlib.Core.List.{IsPrefix}
use Rattle.claim_core.specs.Hand.{HandView, OwnsRun}
use Rattle.grow_core.specs.Token.{PlacedView}
use Rattle.grow_core.specs.Growth.{single}
use Rattle.vector_tests.proofs.tests.uses.push_in_two_threads.Goals as goal

pub returns-clause-disjoint : goal.returns-clause-disjoint
returns-clause-disjoint g c =
    let met = c.meet.ensures in
    let a = c.join-a.result.0.0 in
    let b = c.join-a.result.1.0 in
    let Owned : HandView → Option (PlacedView ℕ) → Type 0 = λ h o. IfSome o (λ p. OwnsRun h (single p.place)) in
    let x_owned : OwnsRun a (single c.in_ok-x.x.place) = subst (Owned a) c.in_ok-x.was c.join-a.ensures.first.1.0 in
    let y_owned : OwnsRun b (single c.in_ok-y.y.place) = subst (Owned b) c.in_ok-y.was c.join-a.ensures.second.1.0 in
    let same_word : c.meet.new.b.of ≡ c.meet.new.a.of = met.also_own.of ∙ (c.join-a.ensures.second.0 ∙ sym (met.own.of ∙ c.join-a.ensures.first.0)) in
    c.owners_are_apart.ensures c.meet.new.a c.meet.new.b (single c.in_ok-x.x.place) (single c.in_ok-y.y.place) same_word met.same met.apart
    (c.own_runs_stay.ensures a c.meet.new.a (single c.in_ok-x.x.place) met.own met.begins x_owned)
    (c.own_runs_stay.ensures b c.meet.new.b (single c.in_ok-y.y.place) met.also_own (subst (λ s. IsPrefix b.seen s) (sym met.same) met.also_begins) y_owned)
