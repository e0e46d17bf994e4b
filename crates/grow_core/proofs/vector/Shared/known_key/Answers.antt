use Rattle.std.proofs.Common.{ℕ, ◌<◌, sym, ap, ◌∙◌, subst, arith}
use Rattle.seg_core.specs.Segment.{segment_count, most_segments}
use Rattle.claim_core.specs.Hand.{HandView}
use Rattle.table_core.specs.Table.{IsBlockOf, IsTiedBlockOf}
use Rattle.grow_core.specs.Keys.{IsKeyAt, mark_of}
use Rattle.grow_core.specs.Ties.{KnowsRow}
use Rattle.grow_core.specs.Vector.{VectorView, layout_of}
use Rattle.grow_core.proofs.LastKeys.{key_is_in}
use Rattle.grow_core.proofs.Works.{hand_still}
use Rattle.grow_core.proofs.vector.Shared.known_key.Goals as goal

pub key_of-requires : goal.key_of-requires
key_of-requires g c =
    let within : c.args.segment < segment_count c.self.inside.table.layout = subst (λ (v : VectorView g.row.T.Denot). c.args.segment < segment_count (layout_of v)) (sym c.self.view_is) c.requires.within in omega (arith, within, c.self.invariant.whole.layout)

pub learn_row-requires : goal.learn_row-requires
learn_row-requires g c =
    let within : c.args.segment < segment_count c.self.inside.table.layout = subst (λ (v : VectorView g.row.T.Denot). c.args.segment < segment_count (layout_of v)) (sym c.self.view_is) c.requires.within in let small : c.args.segment < most_segments = omega (arith, within, c.self.invariant.whole.layout) in
    let at : IsKeyAt (mark_of c.args.self.now.segments) c.args.segment c.in-Some.key = c.requires.opened.named c.args.segment c.in-Some.key small (sym c.key_of.ensures ∙ c.in-Some.is) in
    (omega arith, (ap (λ (h : HandView). h.of) c.hand.view_is ∙ c.requires.ours, key_is_in c.args.self.now.segments c.args.segment c.in-Some.key at))

pub invariant_of-hand : goal.invariant_of-hand
invariant_of-hand g c =
    hand_still c.hand.inside.claims c.learn_row.new.claims c.learn_row.ensures.finds.keeps c.learn_row.ensures.finds.rows c.hand.inside.keys c.hand.invariant

pub returns-in-Some-clause-key : goal.returns-in-Some-clause-key
returns-in-Some-clause-key g c =
    let within : c.args.segment < segment_count c.self.inside.table.layout = subst (λ (v : VectorView g.row.T.Denot). c.args.segment < segment_count (layout_of v)) (sym c.self.view_is) c.requires.within in let small : c.args.segment < most_segments = omega (arith, within, c.self.invariant.whole.layout) in
    c.requires.opened.named c.args.segment c.in-Some.key small (sym c.key_of.ensures ∙ c.in-Some.is)

pub returns-in-Some-clause-long : goal.returns-in-Some-clause-long
returns-in-Some-clause-long g c =
    let within : c.args.segment < segment_count c.self.inside.table.layout = subst (λ (v : VectorView g.row.T.Denot). c.args.segment < segment_count (layout_of v)) (sym c.self.view_is) c.requires.within in let small : c.args.segment < most_segments = omega (arith, within, c.self.invariant.whole.layout) in
    let at : IsKeyAt (mark_of c.args.self.now.segments) c.args.segment c.in-Some.key = c.requires.opened.named c.args.segment c.in-Some.key small (sym c.key_of.ensures ∙ c.in-Some.is) in
    subst (λ (k : ℕ). IsBlockOf (layout_of c.args.self.now) k c.in-Some.key.block) at.at c.learn_row.ensures.tied.length

pub returns-in-Some-clause-by : goal.returns-in-Some-clause-by
returns-in-Some-clause-by g c =
    let within : c.args.segment < segment_count c.self.inside.table.layout = subst (λ (v : VectorView g.row.T.Denot). c.args.segment < segment_count (layout_of v)) (sym c.self.view_is) c.requires.within in let small : c.args.segment < most_segments = omega (arith, within, c.self.invariant.whole.layout) in
    let at : IsKeyAt (mark_of c.args.self.now.segments) c.args.segment c.in-Some.key = c.requires.opened.named c.args.segment c.in-Some.key small (sym c.key_of.ensures ∙ c.in-Some.is) in
    subst (λ (k : ℕ). IsTiedBlockOf c.args.self.now.segments k c.in-Some.key.block) at.at c.learn_row.ensures.tied

pub returns-in-Some-clause-row : goal.returns-in-Some-clause-row
returns-in-Some-clause-row g c =
    let within : c.args.segment < segment_count c.self.inside.table.layout = subst (λ (v : VectorView g.row.T.Denot). c.args.segment < segment_count (layout_of v)) (sym c.self.view_is) c.requires.within in let small : c.args.segment < most_segments = omega (arith, within, c.self.invariant.whole.layout) in
    let at : IsKeyAt (mark_of c.args.self.now.segments) c.args.segment c.in-Some.key = c.requires.opened.named c.args.segment c.in-Some.key small (sym c.key_of.ensures ∙ c.in-Some.is) in
    subst (λ (k : ℕ). KnowsRow c.learn_row.new.claims k c.in-Some.key.block) at.at c.learn_row.ensures.row
