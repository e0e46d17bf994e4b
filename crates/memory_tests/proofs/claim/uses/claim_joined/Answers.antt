-- By the public clauses of `exchange` and `join`, and the public laws.
use Rattle.memory_tests.proofs.claim.uses.claim_joined.Goals as goal

pub returns-clause-disjoint : goal.returns-clause-disjoint
returns-clause-disjoint g c =
    let joined = c.join.ensures in
    let a = c.claim_one.new.hand in
    let b = c.claim_one-2.new.hand in
    c.joined_owners_are_apart.ensures a b c.join.new.hand.seen c.in_ok-first.first c.in_ok-second.second
    (cc (c.in_ok-first.ensures.of, c.in_ok-second.ensures.of, c.requires.ours, c.requires.also_ours)) joined.begins joined.also_begins joined.apart
    c.in_ok-first.ensures.owned c.in_ok-second.ensures.owned

pub returns-clause-seen : goal.returns-clause-seen
returns-clause-seen g c =
    let joined = c.join.ensures in
    let a = c.claim_one.new.hand in
    let b = c.claim_one-2.new.hand in
    let x = c.in_ok-first.ensures.owned in
    let y = c.in_ok-second.ensures.owned in (
      (x.0, c.seen_runs_stay.ensures a c.join.new.hand x.0 c.in_ok-first.first joined.of joined.begins x.2),
      (y.0, c.seen_runs_stay.ensures b c.join.new.hand y.0 c.in_ok-second.second (cc (joined.of, c.in_ok-first.ensures.of, c.in_ok-second.ensures.of, c.requires.ours, c.requires.also_ours)) joined.also_begins y.2),
    )
