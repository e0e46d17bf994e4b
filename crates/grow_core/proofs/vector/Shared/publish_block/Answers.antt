use Rattle.std.proofs.Common.{◌≡◌, ℕ, [], ◌∷◌, ◌-◌, sym, ap, ◌∙◌, subst, arith}
use Rattle.seg_core.specs.Segment.{segment_start}
use Rattle.claim_core.specs.Gain.{IsLent}
use Rattle.claim_core.specs.Plays.{block_view}
use Rattle.cell_core.specs.Block.{BlockView, block_len}
use Rattle.cell_core.specs.Mould.{last_seat}
use Rattle.table_core.specs.Table.{IsLengthOf}
use Rattle.grow_core.specs.Keys.{layout_in}
use Rattle.grow_core.specs.Ties.{KnowsRow}
use Rattle.grow_core.specs.Vector.{VectorView, layout_of}
use Rattle.grow_core.proofs.Entries.{set_to}
use Rattle.grow_core.proofs.KeyRows.{hand_layout}
use Rattle.grow_core.proofs.vector.Shared.publish_block.Goals as goal

-- the entry's places are those of its segment, and so are the block's
pub visit_publish-visit-requires-clause-places : goal.visit_publish-visit-requires-clause-places
visit_publish-visit-requires-clause-places g c = (c.requires.places.0 ∙ sym c.entry_tag-tag.ensures.1.from, omega (arith, c.requires.places.1, c.requires.block.length, c.entry_tag-tag.ensures.1.n))

pub visit_publish-visit-requires-clause-block : goal.visit_publish-visit-requires-clause-block
visit_publish-visit-requires-clause-block g c = (
  c.requires.seat.0 ∙ sym (ap (λ (v : VectorView g.row.T.Denot). v.word.table) c.self.view_is),
  c.requires.seat.2 ∙ (λ i. block_view (sym c.requires.places.2 i) (sym c.requires.places.1 i) ∷ []),
)

-- the hand gets its seat back, and knows the row of the entry's block
pub returns-clause-row : goal.returns-clause-row
returns-clause-row g c =
    let hand = c.args.claims.now in let made = c.install_key_for-key in let visit = made.result.2 in let same = made.ensures.visit.1 in let f : ℕ = c.self.inside.table.layout in
    let layout : layout_in hand.of.mark ≡ f = sym (hand_layout hand c.self.invariant c.self.view_is c.requires.ours) in
    let view : layout_of c.args.self.now ≡ f = sym (ap (λ (v : VectorView g.row.T.Denot). layout_of v) c.self.view_is) in
    let starts = c.requires.places.0 ∙ ap (λ (k : ℕ). segment_start k c.args.segment) view in
    let long : IsLengthOf f c.args.segment g.R.EntryAt.n =
    subst (λ (k : ℕ). IsLengthOf f c.args.segment k) (sym c.requires.places.1) (subst (λ (k : ℕ). IsLengthOf k c.args.segment (block_len c.args.block.value)) view c.requires.block.length) in
    let lent = subst (λ about. IsLent about.table_id about.view hand c.visit_publish-visit.new.self) (sym same) c.visit_publish-visit.ensures.lent in
    let first : g.R.EntryAt.first ≡ last_seat c.args.block.value.cells - g.R.EntryAt.n = omega (arith, c.requires.places.1, c.requires.places.2) in
    subst (λ (b : BlockView). KnowsRow c.take_back_visit.new.self c.args.segment b) (sym made.ensures.key.of)
    (set_to f c.args.segment g.R.EntryAt.from g.R.EntryAt.n hand c.take_back_visit.new.self layout starts long visit.about.told g.R.EntryAt.first c.args.block.value made.result.0.now visit.made made.ensures.made
    made.ensures.block.length first (c.take_back_visit.ensures.gained hand lent)).0

pub returns-clause-finds : goal.returns-clause-finds
returns-clause-finds g c =
    let hand = c.args.claims.now in let made = c.install_key_for-key in let visit = made.result.2 in let same = made.ensures.visit.1 in let f : ℕ = c.self.inside.table.layout in
    let layout : layout_in hand.of.mark ≡ f = sym (hand_layout hand c.self.invariant c.self.view_is c.requires.ours) in
    let view : layout_of c.args.self.now ≡ f = sym (ap (λ (v : VectorView g.row.T.Denot). layout_of v) c.self.view_is) in
    let starts = c.requires.places.0 ∙ ap (λ (k : ℕ). segment_start k c.args.segment) view in
    let long : IsLengthOf f c.args.segment g.R.EntryAt.n =
    subst (λ (k : ℕ). IsLengthOf f c.args.segment k) (sym c.requires.places.1) (subst (λ (k : ℕ). IsLengthOf k c.args.segment (block_len c.args.block.value)) view c.requires.block.length) in
    let lent = subst (λ about. IsLent about.table_id about.view hand c.visit_publish-visit.new.self) (sym same) c.visit_publish-visit.ensures.lent in
    let first : g.R.EntryAt.first ≡ last_seat c.args.block.value.cells - g.R.EntryAt.n = omega (arith, c.requires.places.1, c.requires.places.2) in
    (set_to f c.args.segment g.R.EntryAt.from g.R.EntryAt.n hand c.take_back_visit.new.self layout starts long visit.about.told g.R.EntryAt.first c.args.block.value made.result.0.now visit.made made.ensures.made
    made.ensures.block.length first (c.take_back_visit.ensures.gained hand lent)).1
