-- By the public clauses of `meet`, and the public laws.
use Rattle.std.proofs.Common.{◌∙◌, sym, subst}
use mathlib.Core.List.{IsPrefix}
use Rattle.claim_core.specs.Hand.{single}
use Rattle.memory_tests.proofs.claim.owners.differ.Goals as goal

pub returns-clause-still_owned : goal.returns-clause-still_owned
returns-clause-still_owned g c =
    let met = c.meet.ensures in
    c.own_runs_stay.ensures _ _ _ met.own met.begins c.requires.owned

pub returns-clause-also_still_owned : goal.returns-clause-also_still_owned
returns-clause-also_still_owned g c =
    let met = c.meet.ensures in
    c.own_runs_stay.ensures _ _ _ met.also_own (subst (λ s. IsPrefix c.args.b.now.seen s) (sym met.same) met.also_begins) c.requires.also_owned

pub returns-clause-differ : goal.returns-clause-differ
returns-clause-differ g c =
    let met = c.meet.ensures in
    let same_word = met.also_own.of ∙ (c.requires.also_ours ∙ sym (met.own.of ∙ c.requires.ours)) in
    c.single_places_differ.ensures c.meet.new.a c.meet.new.b c.args.x c.args.y same_word met.same met.apart
    (c.own_runs_stay.ensures _ _ (single c.args.x) met.own met.begins c.requires.owned)
    (c.own_runs_stay.ensures _ _ (single c.args.y) met.also_own (subst (λ s. IsPrefix c.args.b.now.seen s) (sym met.same) met.also_begins) c.requires.also_owned)
