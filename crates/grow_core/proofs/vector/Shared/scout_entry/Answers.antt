use Rattle.std.proofs.Common.{◌≡◌, ℕ, sym, ap, ◌∙◌, subst, arith}
use Rattle.claim_core.specs.Gain.{IsLent}
use Rattle.seg_core.specs.Segment.{segment_start}
use Rattle.table_core.specs.Table.{IsLengthOf}
use Rattle.grow_core.specs.Keys.{layout_in}
use Rattle.grow_core.specs.Vector.{VectorView, layout_of}
use Rattle.grow_core.proofs.Entries.{scouted, tied_lengths}
use Rattle.grow_core.proofs.KeyRows.{hand_layout}
use Rattle.grow_core.proofs.vector.Shared.scout_entry.Goals as goal

-- the entry's places are those of its segment
pub visit_scout-visit-requires-clause-places : goal.visit_scout-visit-requires-clause-places
visit_scout-visit-requires-clause-places g c = (c.requires.places.0 ∙ sym c.entry_tag.ensures.1.from, omega (arith, c.requires.places.1, c.entry_tag.ensures.1.n))

-- the hand gets its seat back, with what the look found
pub returns-clause-row : goal.returns-clause-row
returns-clause-row g c =
    let hand = c.args.claims.now in let visit = c.scout_key_for-found.result.1 in let same = c.scout_key_for-found.ensures.visit.1 in let f : ℕ = c.self.inside.table.layout in
    let layout : layout_in hand.of.mark ≡ f = sym (hand_layout hand c.self.invariant c.self.view_is c.requires.ours) in
    let view : layout_of c.args.self.now ≡ f = sym (ap (λ (v : VectorView g.row.T.Denot). layout_of v) c.self.view_is) in
    let starts = c.requires.places.0 ∙ ap (λ (k : ℕ). segment_start k c.args.segment) view in
    let long = subst (λ (k : ℕ). IsLengthOf k c.args.segment g.R.EntryAt.n) view c.requires.places.1 in
    let lent = subst (λ about. IsLent about.table_id about.view hand c.visit_scout-visit.new.self) (sym same) c.visit_scout-visit.ensures.lent in
    (scouted f c.args.segment g.R.EntryAt.from g.R.EntryAt.n hand c.take_back_visit.new.self layout starts long visit.about.told c.scout_key_for-found.result.0 visit.made c.scout_key_for-found.ensures.made
    (tied_lengths c.self.inside.table c.args.segment c.scout_key_for-found.result.0 c.scout_key_for-found.ensures.block) (c.take_back_visit.ensures.gained hand lent)).0

pub returns-clause-finds : goal.returns-clause-finds
returns-clause-finds g c =
    let hand = c.args.claims.now in let visit = c.scout_key_for-found.result.1 in let same = c.scout_key_for-found.ensures.visit.1 in let f : ℕ = c.self.inside.table.layout in
    let layout : layout_in hand.of.mark ≡ f = sym (hand_layout hand c.self.invariant c.self.view_is c.requires.ours) in
    let view : layout_of c.args.self.now ≡ f = sym (ap (λ (v : VectorView g.row.T.Denot). layout_of v) c.self.view_is) in
    let starts = c.requires.places.0 ∙ ap (λ (k : ℕ). segment_start k c.args.segment) view in
    let long = subst (λ (k : ℕ). IsLengthOf k c.args.segment g.R.EntryAt.n) view c.requires.places.1 in
    let lent = subst (λ about. IsLent about.table_id about.view hand c.visit_scout-visit.new.self) (sym same) c.visit_scout-visit.ensures.lent in
    (scouted f c.args.segment g.R.EntryAt.from g.R.EntryAt.n hand c.take_back_visit.new.self layout starts long visit.about.told c.scout_key_for-found.result.0 visit.made c.scout_key_for-found.ensures.made
    (tied_lengths c.self.inside.table c.args.segment c.scout_key_for-found.result.0 c.scout_key_for-found.ensures.block) (c.take_back_visit.ensures.gained hand lent)).1

pub returns-clause-alone : goal.returns-clause-alone
returns-clause-alone g c =
    let hand = c.args.claims.now in let visit = c.scout_key_for-found.result.1 in let same = c.scout_key_for-found.ensures.visit.1 in let f : ℕ = c.self.inside.table.layout in
    let layout : layout_in hand.of.mark ≡ f = sym (hand_layout hand c.self.invariant c.self.view_is c.requires.ours) in
    let view : layout_of c.args.self.now ≡ f = sym (ap (λ (v : VectorView g.row.T.Denot). layout_of v) c.self.view_is) in
    let starts = c.requires.places.0 ∙ ap (λ (k : ℕ). segment_start k c.args.segment) view in
    let long = subst (λ (k : ℕ). IsLengthOf k c.args.segment g.R.EntryAt.n) view c.requires.places.1 in
    let lent = subst (λ about. IsLent about.table_id about.view hand c.visit_scout-visit.new.self) (sym same) c.visit_scout-visit.ensures.lent in
    (scouted f c.args.segment g.R.EntryAt.from g.R.EntryAt.n hand c.take_back_visit.new.self layout starts long visit.about.told c.scout_key_for-found.result.0 visit.made c.scout_key_for-found.ensures.made
    (tied_lengths c.self.inside.table c.args.segment c.scout_key_for-found.result.0 c.scout_key_for-found.ensures.block) (c.take_back_visit.ensures.gained hand lent)).2
