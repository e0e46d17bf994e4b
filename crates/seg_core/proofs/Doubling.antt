-- Segments double: where they begin and end, and which one has a place.
use Rattle.std.proofs.Common.{◌≡◌, ◌≢◌, ℕ, ◌+◌, ◌-◌, ◌*◌, ◌^◌, ◌<◌, ◌≤◌, nat_lt, true, false, zero, suc, refl, ap, ap₂, sym, ◌∙◌, subst, arith, inl, inr, add-one, add-zero, lit<}
use Rattle.std.proofs.Math.Nat.{pow-le-pow_right, pow-suc, le_refl}
use Rattle.std.proofs.Math.Pow.{pow-lt, pow_pos}
use Rattle.std.proofs.lemmas.Nat.{or_lt, le_or_l, le_or_r, xor_block}
use Rattle.std.specs.Int.Bits.{bit_or, bit_xor, xor_self, xor_zero_r}
use Rattle.std.proofs.lemmas.Bool.{cases_lt}
use Rattle.std.proofs.lemmas.Bool.Decides.{nat_tests}
use Rattle.seg_core.specs.Segment.{segment_start, segment_end, HasPlace, first_ending_after, segment_of, Touches}

-- the segment after one begins where that one ends
pub segment_start-next : (f k : ℕ) → segment_start f (k + 1) ≡ segment_end f k
segment_start-next f k = ap (segment_start f) (add-one k)

-- a segment ends no earlier than those before it
pub segment_end-le : (f j k : ℕ) → j ≤ k → segment_end f j ≤ segment_end f k
segment_end-le f j k below = pow-le-pow_right (lit< tt) (let e : j + f ≤ k + f = omega arith in e)

-- a segment begins no earlier than those before it end
segment_end-le-segment_start : (f j k : ℕ) → j < k → segment_end f j ≤ segment_start f k
segment_end-le-segment_start f j zero below = absurd (omega arith)
segment_end-le-segment_start f j (suc k) below = segment_end-le f j k (omega arith)

-- a segment begins before it ends, also counted from the first of all
segment_start-lt-segment_end : (f k : ℕ) → segment_start f k < segment_end f k
segment_start-lt-segment_end f zero = pow_pos (0 + f)
segment_start-lt-segment_end f (suc k) = pow-lt (let e : k + f < suc k + f = omega arith in e)

-- segments begin in order
segment_start-le : (f j k : ℕ) → j ≤ k → segment_start f j ≤ segment_start f k
segment_start-le f j k below =
    elim (cases_lt j k) [
      | inl before ↦ let gap : segment_end f j ≤ segment_start f k = segment_end-le-segment_start f j k before in let a = segment_start-lt-segment_end f j in omega arith
      | inr within ↦ subst (λ i. segment_start f i ≤ segment_start f k) (let e : k ≡ j = omega arith in e) (le_refl (segment_start f k))
    ]

-- no place is in two intervals
pub one_segment : (f j k place : ℕ) → HasPlace f j place → HasPlace f k place → j ≡ k
one_segment f j k place in_j in_k =
    elim (cases_lt j k) [
      | inl below ↦ absurd (let gap : segment_end f j ≤ segment_start f k = segment_end-le-segment_start f j k below in let a : segment_start f k ≤ place = in_k.from in let b : place < segment_end f j = in_j.before in omega arith)
      | inr above ↦ elim (cases_lt k j) [
        | inl below ↦ absurd (let gap : segment_end f k ≤ segment_start f j = segment_end-le-segment_start f k j below in let a : segment_start f j ≤ place = in_j.from in let b : place < segment_end f k = in_k.before in omega arith)
        | inr below ↦ omega arith
      ]
    ]

-- the search finds the segment, if it begins no later and goes far enough
first_ending_after-has : (f further segment place : ℕ) → segment_start f segment ≤ place
    → place < segment_end f (segment + further) → HasPlace f (first_ending_after f further segment place) place
first_ending_after-has f zero segment place begins ends =
    record { from = begins; before = subst (λ k. place < segment_end f k) (add-zero segment) ends }
first_ending_after-has f (suc further) segment place begins ends =
    elim (nat_lt place (segment_end f segment)) as (λ b. nat_lt place (segment_end f segment) ≡ b → HasPlace f (elim b [ true ↦ segment | false ↦ first_ending_after f further (segment + 1) place ]) place) [
      | true ↦ (λ e. record { from = begins; before = grind (arith, nat_tests) })
      | false ↦ (λ e.
          let past : segment_end f segment ≤ place = grind (arith, nat_tests) in
          first_ending_after-has f further (segment + 1) place
          (subst (λ n. n ≤ place) (sym (segment_start-next f segment)) past)
          (subst (λ k. place < segment_end f k) (let e : segment + suc further ≡ segment + 1 + further = omega arith in e) ends))
    ]
    refl

-- a number is below that power of two
lt-segment_end : (f place : ℕ) → place < segment_end f place
lt-segment_end f zero = pow_pos (0 + f)
lt-segment_end f (suc place) =
    let before = lt-segment_end f place in
    let grown : segment_end f place < segment_end f (suc place) = pow-lt (let e : place + f < suc place + f = omega arith in e) in
    omega arith

-- a place is in its segment's interval
pub segment_of_has : (f place : ℕ) → HasPlace f (segment_of f place) place
unfolding segment_of
segment_of_has f place =
    first_ending_after-has f place 0 place (omega arith) (subst (λ k. place < segment_end f k) (let e : place ≡ 0 + place = omega arith in e) (lt-segment_end f place))

-- the interval that has a place is its segment's
pub is_segment_of : (f segment place : ℕ) → HasPlace f segment place → segment ≡ segment_of f place
is_segment_of f segment place has = one_segment f segment (segment_of f place) place has (segment_of_has f place)

-- places in order lie in segments in order
segments_in_order : (f j k p q : ℕ) → HasPlace f j p → HasPlace f k q → p ≤ q → j ≤ k
segments_in_order f j k p q has_p has_q before =
    elim (cases_lt k j) [
      | inl below ↦ absurd (let gap : segment_end f k ≤ segment_start f j = segment_end-le-segment_start f k j below in let a : segment_start f j ≤ p = has_p.from in let b : q < segment_end f k = has_q.before in omega arith)
      | inr within ↦ within
    ]

-- the next power of two
pub next_power : (e : ℕ) → 2 * 2 ^ e ≡ 2 ^ (e + 1)
next_power e = let next : 2 ^ (e + 1) ≡ 2 ^ suc e = ap (λ i. 2 ^ i) (add-one e) in omega (arith, next, pow-suc 2 e)

-- the smaller of two powers of two has the lower exponent
pub exponent_below : (j k : ℕ) → 2 ^ j < 2 ^ k → j < k
exponent_below j k below =
    elim (cases_lt j k) [
      | inl within ↦ within
      | inr past ↦ absurd (let more : 2 ^ k ≤ 2 ^ j = pow-le-pow_right (lit< tt) past in omega arith)
    ]

-- each segment but the first begins at a power of two
pub starts_at_power : (f k : ℕ) → 0 < k → segment_start f k ≡ 2 ^ (k + f - 1)
starts_at_power f zero some = absurd (omega arith)
starts_at_power f (suc k) some = ap (λ e. 2 ^ e) (let e : k + f ≡ suc k + f - 1 = omega arith in e)

-- and is as long as all those before it
pub doubles : (f k : ℕ) → 0 < k → segment_start f k + segment_start f k ≡ segment_end f k
doubles f zero some = absurd (omega arith)
doubles f (suc k) some =
    let next : 2 ^ (suc k + f) ≡ 2 ^ suc (k + f) = ap (λ e. 2 ^ e) (let e : suc k + f ≡ suc (k + f) = omega arith in e) in
    omega (arith, next, pow-suc 2 (k + f))

-- a place with a greatest bit behind the first segment
pub has_power : (f e place : ℕ) → 2 ^ f ≤ place → 2 ^ e ≤ place → place < 2 ^ (e + 1) → HasPlace f (e + 1 - f) place
has_power f e place past power below =
    let high : f < e + 1 = exponent_below f (e + 1) (omega arith) in
    let start : segment_start f (e + 1 - f) ≡ 2 ^ (e + 1 - f + f - 1) = starts_at_power f (e + 1 - f) (omega arith) in
    let from : 2 ^ (e + 1 - f + f - 1) ≡ 2 ^ e = ap (λ i. 2 ^ i) (let i : e + 1 - f + f - 1 ≡ e = omega arith in i) in
    let to : 2 ^ (e + 1 - f + f) ≡ 2 ^ (e + 1) = ap (λ i. 2 ^ i) (let i : e + 1 - f + f ≡ e + 1 = omega arith in i) in
    record { from = omega (arith, start, from); before = omega (arith, to) }

-- a place with a greatest bit, after the lower half of the first segment was moved up: a place of the first segment has
-- the bit of that half
pub has_first : (f e place : ℕ) → e ≡ f - 1 → 1 ≤ f → bit_or place (2 ^ (f - 1)) < 2 ^ (e + 1) → HasPlace f 0 place
has_first f e place same some below =
    let up = le_or_l place (2 ^ (f - 1)) in
    let end : 2 ^ (e + 1) ≡ 2 ^ (0 + f) = ap (λ i. 2 ^ i) (let i : e + 1 ≡ 0 + f = omega arith in i) in
    record { from = omega arith; before = omega (arith, up, end) }

-- and the place of another segment has it itself
pub has_top : (f e place : ℕ) → e ≢ f - 1 → 1 ≤ f → 2 ^ e ≤ bit_or place (2 ^ (f - 1))
    → bit_or place (2 ^ (f - 1)) < 2 ^ (e + 1) → (f ≤ e) × (2 ^ f ≤ place) × (2 ^ e ≤ place) × (place < 2 ^ (e + 1))
has_top f e place other some power below =
    let low : f - 1 < e + 1 = exponent_below (f - 1) (e + 1) (omega (arith, le_or_r place (2 ^ (f - 1)))) in
    let high : f ≤ e = omega arith in
    let there : 2 ^ e ≤ place = elim (cases_lt place (2 ^ e)) [
      | inl less ↦ absurd (let both = or_lt e place (2 ^ (f - 1)) less (pow-lt (let i : f - 1 < e = omega arith in i)) in omega arith)
      | inr more ↦ more
    ] in
    let first : 2 ^ f ≤ 2 ^ e = pow-le-pow_right (lit< tt) high in
    (high, omega arith, there, omega (arith, le_or_l place (2 ^ (f - 1))))

-- a number without its greatest bit
pub without_top : (e place : ℕ) → 2 ^ e ≤ place → place < 2 ^ (e + 1) → 2 ^ e + bit_xor place (2 ^ e) ≡ place
without_top e place power below =
    let rest : place - 2 ^ e < 2 ^ e = omega (arith, next_power e) in
    let both : bit_xor (1 * 2 ^ e + (place - 2 ^ e)) (1 * 2 ^ e + 0) ≡ bit_xor place (2 ^ e) =
    ap₂ bit_xor (let a : 1 * 2 ^ e + (place - 2 ^ e) ≡ place = omega arith in a) (let b : 1 * 2 ^ e + 0 ≡ 2 ^ e = omega arith in b) in
    let block = xor_block e 1 1 (place - 2 ^ e) 0 rest (pow_pos e) in
    let none = xor_self 1 in
    let kept = xor_zero_r (place - 2 ^ e) in
    let all : bit_xor place (2 ^ e) ≡ 0 * 2 ^ e + (place - 2 ^ e) = sym both ∙ block ∙ ap₂ (λ a b. a * 2 ^ e + b) none kept in
    omega (arith, all)

-- a segment that begins below a power of two
pub begins_below : (f k e place : ℕ) → 1 ≤ f → f ≤ e → HasPlace f k place → place < 2 ^ e → k + f < e + 1
begins_below f zero e place some low has below = omega arith
begins_below f (suc k) e place some low has below =
    let power : 2 ^ (k + f) < 2 ^ e = (let a : 2 ^ (k + f) ≤ place = has.from in omega arith) in
    let lower = exponent_below (k + f) e power in
    omega arith

-- each pair of a segment and an offset is one place
pub one_place : (f j k i o : ℕ) → segment_start f j + i < segment_end f j → segment_start f k + o < segment_end f k
    → segment_start f j + i ≡ segment_start f k + o → (j ≡ k) × (i ≡ o)
one_place f j k i o in_j in_k same =
    let there : HasPlace f j (segment_start f j + i) = record { from = omega arith; before = in_j } in
    let here : HasPlace f k (segment_start f j + i) = record { from = omega arith; before = omega arith } in
    let segments : j ≡ k = one_segment f j k (segment_start f j + i) there here in
    let starts : segment_start f j ≡ segment_start f k = ap (segment_start f) segments in
    (segments, omega arith)

-- a run touches the segments from its first place's to its last place's
pub touches_between : (f first last from n k : ℕ) → HasPlace f first from → HasPlace f last (from + n - 1) → 0 < n
    → Touches f k from n → (first ≤ k) × (k < last + 1)
touches_between f first last from n k has_first has_last some touch =
    let low : first ≤ k = segments_in_order f first k from touch.place has_first touch.there touch.inside.0 in
    let inside : touch.place < from + n = touch.inside.1 in
    let high : k ≤ last = segments_in_order f k last touch.place (from + n - 1) touch.there has_last (omega arith) in
    (low, omega arith)

pub between_touches : (f first last from n k : ℕ) → HasPlace f first from → HasPlace f last (from + n - 1) → 0 < n
    → first ≤ k → k < last + 1 → Touches f k from n
between_touches f first last from n k has_first has_last some low high =
    elim (cases_lt first k) [
      | inl after ↦ record {
        place = segment_start f k;
        inside = (
          let gap : segment_end f first ≤ segment_start f k = segment_end-le-segment_start f first k after in let a : from < segment_end f first = has_first.before in omega arith,
          let a : segment_start f last ≤ from + n - 1 = has_last.from in let b : segment_start f k ≤ segment_start f last = segment_start-le f k last (omega arith) in omega arith,
        );
        there = record { from = le_refl (segment_start f k); before = segment_start-lt-segment_end f k };
      }
      | inr within ↦ record {
        place = from;
        inside = (le_refl from, omega arith);
        there = subst (λ j. HasPlace f j from) (let e : first ≡ k = omega arith in e) has_first;
      }
    ]

-- no segment that ends behind the last place ends before its segment does
pub least_end : (f segment n k : ℕ) → HasPlace f segment (n - 1) → 0 < n → n ≤ segment_end f k
    → segment_end f segment ≤ segment_end f k
least_end f segment n k has some room =
    elim (cases_lt k segment) [
      | inl below ↦ absurd (let gap : segment_end f k ≤ segment_start f segment = segment_end-le-segment_start f k segment below in let a : segment_start f segment ≤ n - 1 = has.from in omega arith)
      | inr within ↦ segment_end-le f segment k within
    ]
