-- Capacities of whole segments.
use Rattle.std.proofs.Common.{◌≡◌, ℕ, zero, suc, ◌<◌, ◌≤◌, refl, inl, inr, ⊎_elim, sym, ◌∙◌, arith}
use Rattle.std.proofs.Math.Nat.{max-eq_right}
use Rattle.std.proofs.lemmas.Bool.{cases_lt}
use Rattle.seg_core.specs.Segment.{segment_start}
use Rattle.grow_core.proofs.Places.{starts_le}
use Rattle.quiet_core.specs.QuietList.{IsWhole, IsCapacityFor, GrowsFor}

-- the first segments fill whole segments
pub starts_whole : (f segments : ℕ) → IsWhole f (segment_start f segments)
starts_whole f zero = inl refl
starts_whole f (suc k) = inr (k, refl)

-- whole segments are some first segments
whole_start : (f places : ℕ) → IsWhole f places → (j : ℕ) × (places ≡ segment_start f j)
whole_start f places whole = ⊎_elim (λ none. (0, none)) (λ some. (suc some.0, some.1)) whole

-- if each segment except the last is needed for n members, no fewer have room for them
no_fewer : (f n segments other : ℕ) → ((k : ℕ) → k < segments → segment_start f k < n) → IsWhole f other → n ≤ other → segment_start f segments ≤ other
no_fewer f n segments other least whole room =
    let start = whole_start f other whole in let j : ℕ = start.0 in let is = start.1 in
    ⊎_elim (λ fewer. let below = least j fewer in absurd (omega (arith, below, is, room))) (λ enough. let le = starts_le f segments j enough in omega (arith, le, is)) (cases_lt j segments)

-- the segments that are left have the fewest places for the members
pub fewest_left : (f n segments : ℕ) → n ≤ segment_start f segments → ((k : ℕ) → k < segments → segment_start f k < n) → IsCapacityFor f n (segment_start f segments)
fewest_left f n segments room least = record {
  whole = starts_whole f segments;
  room = room;
  least = λ other whole enough. no_fewer f n segments other least whole enough;
}

-- the capacity that was needed is there
pub grown_for : (f n old new needed : ℕ) → IsCapacityFor f n needed → segment_start f old < needed → n ≤ segment_start f new
    → ((k : ℕ) → old ≤ k → k < new → segment_start f k < n) → GrowsFor f n (segment_start f old) (segment_start f new)
grown_for f n old new needed fewest lacks room least =
    let low : needed ≤ segment_start f new = fewest.least (segment_start f new) (starts_whole f new) room in
    let start = whole_start f needed fewest.whole in let j : ℕ = start.0 in let is = start.1 in let enough = fewest.room in
    let high : segment_start f new ≤ needed = ⊎_elim
    (λ fewer. ⊎_elim (λ below. let le = starts_le f j old (omega (arith, below)) in absurd (omega (arith, le, is, lacks))) (λ above. let lt = least j above fewer in absurd (omega (arith, lt, is, enough))) (cases_lt j old))
    (λ more. let le = starts_le f new j more in omega (arith, le, is)) (cases_lt j new) in
    let same : segment_start f new ≡ needed = omega (arith, low, high) in
    (needed, fewest, same ∙ sym (max-eq_right (omega (arith, lacks))))
