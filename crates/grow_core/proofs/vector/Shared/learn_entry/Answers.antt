use Rattle.std.proofs.Common.{◌≡◌, ℕ, Some, sym, ap, ◌∙◌, subst}
use Rattle.claim_core.specs.Gain.{IsLent}
use Rattle.seg_core.specs.Segment.{segment_start}
use Rattle.cell_core.specs.Block.{BlockView}
use Rattle.cell_core.specs.Mould.{last_seat}
use Rattle.table_core.specs.Table.{IsBlockOf, IsLengthOf}
use Rattle.grow_core.specs.Keys.{layout_in}
use Rattle.grow_core.specs.Vector.{VectorView, layout_of}
use Rattle.grow_core.proofs.Entries.{scouted}
use Rattle.grow_core.proofs.KeyRows.{hand_layout}
use Rattle.grow_core.proofs.vector.Shared.learn_entry.Goals as goal

-- the hand gets its seat back, with what the look found
pub returns-clause-finds : goal.returns-clause-finds
returns-clause-finds g c =
    let hand = c.args.claims.now in let segment : ℕ = c.args.key.now.segment in let look = c.known_for-visit in let visit = look.result.1 in let same = look.ensures.visit.1 in let f : ℕ = c.self.inside.table.layout in
    let layout : layout_in hand.of.mark ≡ f = sym (hand_layout hand c.self.invariant c.self.view_is c.requires.ours) in
    let view : layout_of c.args.self.now ≡ f = sym (ap (λ (v : VectorView g.row.T.Denot). layout_of v) c.self.view_is) in
    let starts = c.requires.places.0 ∙ ap (λ (k : ℕ). segment_start k segment) view in
    let long = subst (λ (k : ℕ). IsLengthOf k segment g.R.EntryAt.n) view c.requires.places.1 in
    let lent = subst (λ about. IsLent about.table_id about.view hand c.visit_scout-visit.new.self) (sym same) c.visit_scout-visit.ensures.lent in
    let found = look.ensures.made ∙ ap (λ (b : BlockView). Some (Some (last_seat b.cells))) (sym look.ensures.block) in
    let blocks : IsBlockOf f segment look.result.0.now = subst (IsBlockOf f segment) (sym look.ensures.block) look.ensures.tied.length in
    (scouted f segment g.R.EntryAt.from g.R.EntryAt.n hand c.take_back_visit.new.self layout starts long visit.about.told (Some (look.result.0, c.args.key.now)) visit.made found blocks
    (c.take_back_visit.ensures.gained hand lent)).1
