-- By the public clauses of `join`, and the public laws.
use Rattle.std.proofs.Common.{◌∙◌, sym, inl, inr}
use Rattle.claim_core.specs.Hand.{single}
use Rattle.memory_tests.proofs.claim.owners.join.Goals as goal

pub returns-clause-owned : goal.returns-clause-owned
returns-clause-owned g c =
    let j = c.join.ensures in
    c.joined_hands_own_runs.ensures c.args.a.now c.args.b c.join.new.hand (single c.args.x) j.of (j.of ∙ (c.requires.ours ∙ sym c.requires.also_ours)) j.begins j.also_begins j.mine (inl c.requires.owned)

pub returns-clause-also_owned : goal.returns-clause-also_owned
returns-clause-also_owned g c =
    let j = c.join.ensures in
    c.joined_hands_own_runs.ensures c.args.a.now c.args.b c.join.new.hand (single c.args.y) j.of (j.of ∙ (c.requires.ours ∙ sym c.requires.also_ours)) j.begins j.also_begins j.mine (inr c.requires.also_owned)

pub returns-clause-places : goal.returns-clause-places
returns-clause-places g c =
    let j = c.join.ensures in
    c.joined_places_add_up.ensures c.args.a.now c.args.b c.join.new.hand c.laws.ensures.below c.laws-2.ensures.below j.begins j.also_begins j.mine
