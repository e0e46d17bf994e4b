use Rattle.std.proofs.Common.{◌≡◌, ℕ, sym, ap, ◌∙◌, subst, arith}
use Rattle.claim_core.specs.Gain.{IsLent, GainsFrom}
use Rattle.claim_core.specs.Plays.{found_gain}
use Rattle.seg_core.specs.Segment.{segment_start}
use Rattle.table_core.specs.Table.{IsLengthOf}
use Rattle.grow_core.specs.Keys.{layout_in}
use Rattle.grow_core.specs.Vector.{VectorView, layout_of}
use Rattle.grow_core.proofs.Entries.{looked_up, tied_lengths}
use Rattle.grow_core.proofs.KeyRows.{hand_layout}
use Rattle.grow_core.proofs.vector.Shared.look_up.Goals as goal

-- the entry's places are those of its segment
pub visit_look-visit-requires-clause-places : goal.visit_look-visit-requires-clause-places
visit_look-visit-requires-clause-places g c = (c.requires.places.0 ∙ sym c.entry_tag.ensures.1.from, omega (arith, c.requires.places.1, c.entry_tag.ensures.1.n))

pub visit_look-visit-requires-clause-there : goal.visit_look-visit-requires-clause-there
visit_look-visit-requires-clause-there g c = let at = c.requires.places in (omega (arith, at.0, c.requires.there.from), omega (arith, at.0, at.1, c.requires.there.before))

-- the hand gets its seat back, with what the look found
pub returns-clause-row : goal.returns-clause-row
returns-clause-row g c =
    let hand = c.args.claims.now in let visit = c.scout_key_for-found.result.1 in let same = c.scout_key_for-found.ensures.visit.1 in let f : ℕ = c.self.inside.table.layout in
    let layout : layout_in hand.of.mark ≡ f = sym (hand_layout hand c.self.invariant c.self.view_is c.requires.ours) in
    let view : layout_of c.args.self.now ≡ f = sym (ap (λ (v : VectorView g.row.T.Denot). layout_of v) c.self.view_is) in
    let starts = c.requires.places.0 ∙ ap (λ (k : ℕ). segment_start k c.args.segment) view in
    let long = subst (λ (k : ℕ). IsLengthOf k c.args.segment g.R.EntryAt.n) view c.requires.places.1 in
    let lent = subst (λ about. IsLent about.table_id about.view hand c.visit_look-visit.new.self) (sym same) c.visit_look-visit.ensures.lent in
    let told = ap (λ about. about.told) same ∙ c.visit_look-visit.ensures.visit.3 in
    let gained = subst (λ (p : ℕ). GainsFrom (found_gain g.R.EntryAt.from g.R.EntryAt.n p) visit.made hand c.take_back_visit.new.self) told (c.take_back_visit.ensures.gained hand lent) in
    (looked_up f c.args.segment g.R.EntryAt.from g.R.EntryAt.n hand c.take_back_visit.new.self layout starts long c.args.place c.scout_key_for-found.result.0 visit.made c.scout_key_for-found.ensures.made
    (tied_lengths c.self.inside.table c.args.segment c.scout_key_for-found.result.0 c.scout_key_for-found.ensures.block) gained).0

pub returns-clause-finds : goal.returns-clause-finds
returns-clause-finds g c =
    let hand = c.args.claims.now in let visit = c.scout_key_for-found.result.1 in let same = c.scout_key_for-found.ensures.visit.1 in let f : ℕ = c.self.inside.table.layout in
    let layout : layout_in hand.of.mark ≡ f = sym (hand_layout hand c.self.invariant c.self.view_is c.requires.ours) in
    let view : layout_of c.args.self.now ≡ f = sym (ap (λ (v : VectorView g.row.T.Denot). layout_of v) c.self.view_is) in
    let starts = c.requires.places.0 ∙ ap (λ (k : ℕ). segment_start k c.args.segment) view in
    let long = subst (λ (k : ℕ). IsLengthOf k c.args.segment g.R.EntryAt.n) view c.requires.places.1 in
    let lent = subst (λ about. IsLent about.table_id about.view hand c.visit_look-visit.new.self) (sym same) c.visit_look-visit.ensures.lent in
    let told = ap (λ about. about.told) same ∙ c.visit_look-visit.ensures.visit.3 in
    let gained = subst (λ (p : ℕ). GainsFrom (found_gain g.R.EntryAt.from g.R.EntryAt.n p) visit.made hand c.take_back_visit.new.self) told (c.take_back_visit.ensures.gained hand lent) in
    (looked_up f c.args.segment g.R.EntryAt.from g.R.EntryAt.n hand c.take_back_visit.new.self layout starts long c.args.place c.scout_key_for-found.result.0 visit.made c.scout_key_for-found.ensures.made
    (tied_lengths c.self.inside.table c.args.segment c.scout_key_for-found.result.0 c.scout_key_for-found.ensures.block) gained).1

pub returns-clause-logs : goal.returns-clause-logs
returns-clause-logs g c =
    let hand = c.args.claims.now in let visit = c.scout_key_for-found.result.1 in let same = c.scout_key_for-found.ensures.visit.1 in let f : ℕ = c.self.inside.table.layout in
    let layout : layout_in hand.of.mark ≡ f = sym (hand_layout hand c.self.invariant c.self.view_is c.requires.ours) in
    let view : layout_of c.args.self.now ≡ f = sym (ap (λ (v : VectorView g.row.T.Denot). layout_of v) c.self.view_is) in
    let starts = c.requires.places.0 ∙ ap (λ (k : ℕ). segment_start k c.args.segment) view in
    let long = subst (λ (k : ℕ). IsLengthOf k c.args.segment g.R.EntryAt.n) view c.requires.places.1 in
    let lent = subst (λ about. IsLent about.table_id about.view hand c.visit_look-visit.new.self) (sym same) c.visit_look-visit.ensures.lent in
    let told = ap (λ about. about.told) same ∙ c.visit_look-visit.ensures.visit.3 in
    let gained = subst (λ (p : ℕ). GainsFrom (found_gain g.R.EntryAt.from g.R.EntryAt.n p) visit.made hand c.take_back_visit.new.self) told (c.take_back_visit.ensures.gained hand lent) in
    (looked_up f c.args.segment g.R.EntryAt.from g.R.EntryAt.n hand c.take_back_visit.new.self layout starts long c.args.place c.scout_key_for-found.result.0 visit.made c.scout_key_for-found.ensures.made
    (tied_lengths c.self.inside.table c.args.segment c.scout_key_for-found.result.0 c.scout_key_for-found.ensures.block) gained).2
