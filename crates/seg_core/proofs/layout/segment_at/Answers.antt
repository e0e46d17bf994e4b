use Rattle.std.proofs.Common.{◌≡◌, ℕ, ◌+◌, ◌-◌, ◌*◌, ◌%◌, ◌^◌, ◌<◌, ◌≤◌, ap, subst, ◌∙◌, arith}
use Rattle.std.proofs.Math.Pow.{pow_pos}
use Rattle.std.proofs.lemmas.Nat.{one_shl, le_or_r}
use Rattle.std.specs.Int.Bits.{bit_or, bit_xor}
use Rattle.seg_core.specs.Segment.{HasPlace, segment_start}
use Rattle.seg_core.proofs.Doubling.{has_first, has_top, has_power, without_top, exponent_below, is_segment_of, next_power, starts_at_power}
use Rattle.seg_core.proofs.layout.segment_at.Goals as goal

-- the place with the bit of the first segment's second half
with_half : (f place : ℕ) → f ≤ 8 → bit_or place (1 * 2 ^ (f - 1) % 18446744073709551616) ≡ bit_or place (2 ^ (f - 1))
with_half f place small = ap (bit_or place) (one_shl (f - 1) 64 (omega arith))

-- that bit is the greatest: the place is of the first segment
first : (c : goal.Then-top-half) → HasPlace c.args.f 0 c.args.place
first c =
    has_first c.args.f c.ilog2-top.result c.args.place (omega (arith, c.if-top-half.true)) c.requires.layout.0
    (omega (arith, with_half c.args.f c.args.place c.requires.layout.1, next_power c.ilog2-top.result, c.ilog2-top.ensures.next_power_gt))

-- otherwise it is the place's own
top : (c : goal.Else-top-half) → (c.args.f ≤ c.ilog2-top.result) × (2 ^ c.args.f ≤ c.args.place)
    × (2 ^ c.ilog2-top.result ≤ c.args.place) × (c.args.place < 2 ^ (c.ilog2-top.result + 1))
top c =
    let half = with_half c.args.f c.args.place c.requires.layout.1 in
    has_top c.args.f c.ilog2-top.result c.args.place (λ e. c.if-top-half.false (omega (arith, e))) c.requires.layout.0
    (omega (arith, half, c.ilog2-top.ensures.power_le))
    (omega (arith, half, next_power c.ilog2-top.result, c.ilog2-top.ensures.next_power_gt))

here : (c : goal.Else-top-half) → HasPlace c.args.f (c.ilog2-top.result + 1 - c.args.f) c.args.place
here c = has_power c.args.f c.ilog2-top.result c.args.place (top c).1 (top c).2 (top c).3

number : (c : goal.Else-top-half) → c.ilog2-top.result + 1 - c.args.f ≡ c.ilog2-top.result - (c.args.f - 1)
number c = omega (arith, c.requires.layout.0)

there : (c : goal.Else-top-half) → HasPlace c.args.f (c.ilog2-top.result - (c.args.f - 1)) c.args.place
there c = subst (λ k. HasPlace c.args.f k c.args.place) (number c) (here c)

exponent : (c : goal.Else-top-half) → c.ilog2-top.result < 40
exponent c = exponent_below c.ilog2-top.result 40 (omega (arith, (top c).2, c.requires.small))

pub ilog2-top-requires : goal.ilog2-top-requires
ilog2-top-requires c = omega (arith, with_half c.args.f c.args.place c.requires.layout.1, le_or_r c.args.place (2 ^ (c.args.f - 1)), pow_pos (c.args.f - 1))

pub returns-then-top-half-clause-segment : goal.returns-then-top-half-clause-segment
returns-then-top-half-clause-segment c = first c

pub returns-then-top-half-clause-number : goal.returns-then-top-half-clause-number
returns-then-top-half-clause-number c = is_segment_of _ 0 _ (first c)

pub overflow_sub-result : goal.overflow_sub-result
overflow_sub-result c = omega (arith, (top c).0)

pub returns-else-top-half-clause-segment : goal.returns-else-top-half-clause-segment
returns-else-top-half-clause-segment c = there c

pub returns-else-top-half-clause-number : goal.returns-else-top-half-clause-number
returns-else-top-half-clause-number c = is_segment_of _ _ _ (there c)

pub returns-else-top-half-clause-offset : goal.returns-else-top-half-clause-offset
returns-else-top-half-clause-offset c =
    let f = c.args.f in let e = c.ilog2-top.result in
    let bit = ap (bit_xor c.args.place) (one_shl e 64 (omega (arith, exponent c))) in
    let start : segment_start f (e - (f - 1)) ≡ 2 ^ e =
    starts_at_power f (e - (f - 1)) (omega (arith, (top c).0, c.requires.layout.0)) ∙ ap (λ i. 2 ^ i) (let i : e - (f - 1) + f - 1 ≡ e = omega (arith, (top c).0, c.requires.layout.0) in i) in
    omega (arith, bit, start, without_top e c.args.place (top c).2 (top c).3)

pub returns-else-top-half-clause-bound : goal.returns-else-top-half-clause-bound
returns-else-top-half-clause-bound c = omega (arith, exponent c, c.requires.layout.0, c.requires.layout.1)
