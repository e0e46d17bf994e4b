use Rattle.std.proofs.Common.{◌≡◌, ℕ, ◌<◌, refl, sym, ap, ◌∙◌, subst, arith}
use Rattle.seg_core.specs.Segment.{HasPlace, segment_count, most_segments}
use Rattle.table_core.specs.Table.{IsBlockOf, IsTiedBlockOf}
use Rattle.grow_core.specs.Keys.{IsKeyAt, layout_in, mark_of}
use Rattle.grow_core.specs.Vector.{VectorView, layout_of}
use Rattle.grow_core.proofs.KeyRows.{mark_is, none_is_none}
use Rattle.grow_core.proofs.LastKeys.{key_is_in}
use Rattle.grow_core.proofs.vector.Shared.own_key.Goals as goal

pub key_of-requires : goal.key_of-requires
key_of-requires g c =
    let within : c.args.segment < segment_count c.self.inside.table.layout = subst (λ (v : VectorView g.row.T.Denot). c.args.segment < segment_count (layout_of v)) (sym c.self.view_is) c.requires.within in let small : c.args.segment < most_segments = omega (arith, within, c.self.invariant.whole.layout) in
    small

pub known_block-requires : goal.known_block-requires
known_block-requires g c =
    let within : c.args.segment < segment_count c.self.inside.table.layout = subst (λ (v : VectorView g.row.T.Denot). c.args.segment < segment_count (layout_of v)) (sym c.self.view_is) c.requires.within in let small : c.args.segment < most_segments = omega (arith, within, c.self.invariant.whole.layout) in
    let mark : mark_of c.args.self.now.segments ≡ c.args.hand.now.of.mark = ap (λ (v : VectorView g.row.T.Denot). mark_of v.segments) (sym c.self.view_is) ∙ mark_is {claims = c.args.hand.now} c.self.invariant c.self.view_is refl c.requires.ours in
    let at : IsKeyAt (mark_of c.args.self.now.segments) c.args.segment c.in-Some.key = subst (λ m. IsKeyAt m c.args.segment c.in-Some.key) (sym mark) (c.keys-keys.ensures.keyed.keys c.args.segment c.in-Some.key small (sym c.key_of.ensures ∙ c.in-Some.is)) in
    (omega arith, key_is_in c.args.self.now.segments c.args.segment c.in-Some.key at)

pub returns-in-Some-clause-key : goal.returns-in-Some-clause-key
returns-in-Some-clause-key g c =
    let within : c.args.segment < segment_count c.self.inside.table.layout = subst (λ (v : VectorView g.row.T.Denot). c.args.segment < segment_count (layout_of v)) (sym c.self.view_is) c.requires.within in let small : c.args.segment < most_segments = omega (arith, within, c.self.invariant.whole.layout) in
    let mark : mark_of c.args.self.now.segments ≡ c.args.hand.now.of.mark = ap (λ (v : VectorView g.row.T.Denot). mark_of v.segments) (sym c.self.view_is) ∙ mark_is {claims = c.args.hand.now} c.self.invariant c.self.view_is refl c.requires.ours in
    let at : IsKeyAt (mark_of c.args.self.now.segments) c.args.segment c.in-Some.key = subst (λ m. IsKeyAt m c.args.segment c.in-Some.key) (sym mark) (c.keys-keys.ensures.keyed.keys c.args.segment c.in-Some.key small (sym c.key_of.ensures ∙ c.in-Some.is)) in
    at

pub returns-in-Some-clause-long : goal.returns-in-Some-clause-long
returns-in-Some-clause-long g c =
    let within : c.args.segment < segment_count c.self.inside.table.layout = subst (λ (v : VectorView g.row.T.Denot). c.args.segment < segment_count (layout_of v)) (sym c.self.view_is) c.requires.within in let small : c.args.segment < most_segments = omega (arith, within, c.self.invariant.whole.layout) in
    let mark : mark_of c.args.self.now.segments ≡ c.args.hand.now.of.mark = ap (λ (v : VectorView g.row.T.Denot). mark_of v.segments) (sym c.self.view_is) ∙ mark_is {claims = c.args.hand.now} c.self.invariant c.self.view_is refl c.requires.ours in
    let at : IsKeyAt (mark_of c.args.self.now.segments) c.args.segment c.in-Some.key = subst (λ m. IsKeyAt m c.args.segment c.in-Some.key) (sym mark) (c.keys-keys.ensures.keyed.keys c.args.segment c.in-Some.key small (sym c.key_of.ensures ∙ c.in-Some.is)) in
    subst (λ (k : ℕ). IsBlockOf (layout_of c.args.self.now) k c.in-Some.key.block) at.at c.known_block.ensures.long

pub returns-in-Some-clause-by : goal.returns-in-Some-clause-by
returns-in-Some-clause-by g c =
    let within : c.args.segment < segment_count c.self.inside.table.layout = subst (λ (v : VectorView g.row.T.Denot). c.args.segment < segment_count (layout_of v)) (sym c.self.view_is) c.requires.within in let small : c.args.segment < most_segments = omega (arith, within, c.self.invariant.whole.layout) in
    let mark : mark_of c.args.self.now.segments ≡ c.args.hand.now.of.mark = ap (λ (v : VectorView g.row.T.Denot). mark_of v.segments) (sym c.self.view_is) ∙ mark_is {claims = c.args.hand.now} c.self.invariant c.self.view_is refl c.requires.ours in
    let at : IsKeyAt (mark_of c.args.self.now.segments) c.args.segment c.in-Some.key = subst (λ m. IsKeyAt m c.args.segment c.in-Some.key) (sym mark) (c.keys-keys.ensures.keyed.keys c.args.segment c.in-Some.key small (sym c.key_of.ensures ∙ c.in-Some.is)) in
    subst (λ (k : ℕ). IsTiedBlockOf c.args.self.now.segments k c.in-Some.key.block) at.at c.known_block.ensures.tied

pub returns-in-Some-clause-row : goal.returns-in-Some-clause-row
returns-in-Some-clause-row g c =
    let within : c.args.segment < segment_count c.self.inside.table.layout = subst (λ (v : VectorView g.row.T.Denot). c.args.segment < segment_count (layout_of v)) (sym c.self.view_is) c.requires.within in let small : c.args.segment < most_segments = omega (arith, within, c.self.invariant.whole.layout) in
    c.keys-keys.ensures.rows c.args.segment c.in-Some.key small (sym c.key_of.ensures ∙ c.in-Some.is)

pub returns-in-None-clause-there : goal.returns-in-None-clause-there
returns-in-None-clause-there g c place owns there =
    let within : c.args.segment < segment_count c.self.inside.table.layout = subst (λ (v : VectorView g.row.T.Denot). c.args.segment < segment_count (layout_of v)) (sym c.self.view_is) c.requires.within in let small : c.args.segment < most_segments = omega (arith, within, c.self.invariant.whole.layout) in
    let mark : mark_of c.args.self.now.segments ≡ c.args.hand.now.of.mark = ap (λ (v : VectorView g.row.T.Denot). mark_of v.segments) (sym c.self.view_is) ∙ mark_is {claims = c.args.hand.now} c.self.invariant c.self.view_is refl c.requires.ours in
    absurd (none_is_none _ (sym c.key_of.ensures ∙ c.in-None.is) (c.keys-keys.ensures.keyed.own place c.args.segment small owns (subst (λ m. HasPlace (layout_in m) c.args.segment place) mark there)))
