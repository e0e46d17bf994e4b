use Rattle.std.proofs.Common.{ℕ, ◌≡◌, ◌+◌, ◌-◌, ◌/◌, ◌<◌, ◌≤◌, ◌⊎◌, inl, inr, length, set, Some, ap, arith, subst, sym, ⊎_elim}
use mathlib.Core.Logic.{dite}
use native.Mathlib.Decide.{dec_le}
use Rattle.std.proofs.lemmas.List.{length-set}
use Rattle.claim_core.specs.declared.run.Run.{Run}
use Rattle.memory_tests.specs.declared.claim.keys.Key.{Key}
use Rattle.claim_core.specs.Hand.{OwnsPlace, IsPlaceOf}
use Rattle.memory_tests.proofs.KeyRows.{HasKey, set_here, set_keeps}
use Rattle.memory_tests.proofs.claim.keys.KeyedHand.claim.Goals as goal

pub invariant_of-self : goal.invariant_of-self
invariant_of-self g c place own =
    let lost = c.in_default.ensures.seen in
    c.self.invariant place (c.own_places_stay.ensures c.self.inside.hand c.exchange.new.hand place c.laws-2.ensures.below lost.own lost.seen own)

-- a run of at most a block touches the block of its first place and that of its last
touches : (from n place : ℕ) → n ≤ 34359738368 → from ≤ place → place < from + n
    → (place / 34359738368 ≡ from / 34359738368) ⊎ (place / 34359738368 ≡ (from + n - 1) / 34359738368)
touches from n place small after before =
    dite (dec_le (place / 34359738368) (from / 34359738368)) (λ le. inl (omega arith)) (λ more. inr (omega arith))

pub invariant_of-self-2 : goal.invariant_of-self-2
invariant_of-self-2 g c place own =
    let hand = c.self.inside.hand in
    let row = c.self.inside.row in
    let claimed = c.in-Ok.ensures.claimed in
    let first = c.seen-from.result / 34359738368 in
    let last = (c.seen-from.result + c.args.n - 1) / 34359738368 in
    let key : Key = record {} in
    let long : length row ≡ 32 = let ranges = c.self.ranges in omega arith in
    let in_first : first < length row = omega arith in
    let in_last : last < length (set row first (Some key)) = omega (arith, length-set row first (Some key)) in
    ⊎_elim
    (λ (was : OwnsPlace hand place). set_keeps (set row first (Some key)) last (place / 34359738368) key in_last (set_keeps row first (place / 34359738368) key in_first (c.self.invariant place was)))
    (λ (is_place : IsPlaceOf c.in-Ok.run' place).
    let after = is_place.0 in
    let before = is_place.1 in
    let from = ap (λ (r : Run). r.from) c.in-Ok.ensures.run in
    let n = ap (λ (r : Run). r.n) c.in-Ok.ensures.run in
    ⊎_elim
    (λ (is : place / 34359738368 ≡ first). subst (HasKey (set (set row first (Some key)) last (Some key))) (sym is) (set_keeps (set row first (Some key)) last first key in_last (set_here row first key in_first)))
    (λ (is : place / 34359738368 ≡ last). subst (HasKey (set (set row first (Some key)) last (Some key))) (sym is) (set_here (set row first (Some key)) last key in_last))
    (touches c.seen-from.result c.args.n place c.requires.at_most_a_block (omega arith) (omega arith)))
    (c.added_places_are_of_the_run.ensures hand c.exchange.new.hand c.in-Ok.run' place c.laws-2.ensures.below claimed own)
