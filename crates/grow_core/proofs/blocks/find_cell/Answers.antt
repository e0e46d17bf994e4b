use Rattle.std.proofs.Common.{◌≡◌, ℕ, ◌<◌, ◌≤◌, false, true, sym, ◌∙◌, subst, arith}
use Rattle.seg_core.specs.Segment.{segment_start, segment_count}
use Rattle.std.specs.Prelude.{IsSome}
use Rattle.grow_core.proofs.Places.{segment_below, starts_le, all_places}
use Rattle.grow_core.proofs.blocks.find_cell.Goals as goal

pub returns-in-None-clause-some : goal.returns-in-None-clause-some
returns-in-None-clause-some g c =
    let lost : false ≡ true = subst IsSome (sym c.key_of.ensures ∙ c.in-None.is)
    (c.requires.there c.locate-segment.result.0 (segment_below c.layout-layout.result c.locate-segment.result.0 c.args.place c.args.count c.locate-segment.ensures.segment (subst (λ (f : ℕ). c.args.place < segment_start f c.args.count) (sym c.layout-layout.ensures.value) c.requires.inside))) in
    absurd (let z = lost in cc)

pub locate-segment-requires : goal.locate-segment-requires
locate-segment-requires g c =
    let f : ℕ = c.args.table.now.layout in let le = starts_le f c.args.count (segment_count f) c.requires.few in
    let most : f ≤ 8 = subst (λ (l : ℕ). l ≤ 8) c.layout-layout.ensures.value c.f-f.ensures.layout.1 in let all = all_places f most in
    omega (arith, le, all, c.requires.inside)

pub returns-in-Some-clause-first : goal.returns-in-Some-clause-first
returns-in-Some-clause-first g c =
    segment_below c.layout-layout.result c.locate-segment.result.0 c.args.place c.args.count c.locate-segment.ensures.segment
    (subst (λ (f : ℕ). c.args.place < segment_start f c.args.count) (sym c.layout-layout.ensures.value) c.requires.inside)
