use Rattle.std.proofs.Common.{◌≡◌, arith, ℕ, List, sym, subst, ap, ◌∙◌}
use Rattle.std.specs.Prelude.{Option, Some, length, replicate}
use Rattle.tie_core.specs.Tie.{Tie, Made, Begun, Filled}
use Rattle.claim_core.specs.Gain.{GainsAlong, IsLent}
use Rattle.claim_core.specs.Plays.{fill_run_gains}
use Rattle.cell_core.specs.Slot.{Names}
use Rattle.tie_core.specs.Run.{run_of}
use Rattle.cell_core.specs.Run.{AreTiedTo, cells_from}
use Rattle.grow_core.proofs.Stretches.{cells_length}
use Rattle.grow_core.proofs.TiedCells.{cell_here, cells_here, row_here}
use Rattle.grow_core.proofs.TiedSteps.{filled_along}
use Rattle.grow_core.proofs.vector.Shared.publish_tied.Goals as goal

pub cell_tag-tag-requires : goal.cell_tag-tag-requires
cell_tag-tag-requires g c =
    let cell = cell_here c.args.self.now c.args.segment.now c.requires.segment c.args.place c.requires.from (omega (arith, c.requires.within, c.requires.some)) in
    (omega arith, cell)

pub offer_fill_run-offer-requires-clause-found : goal.offer_fill_run-offer-requires-clause-found
offer_fill_run-offer-requires-clause-found g c =
    let segment = c.args.segment.now in let hand = c.args.claims.now in
    c.cell_tag-tag.ensures.found_run hand c.args.n c.requires.ours (row_here c.args.self.now segment hand c.requires.segment c.requires.row)
    (cells_here c.args.self.now segment c.requires.segment c.args.place c.requires.from c.args.n c.requires.within)

pub publish_for-row-requires-clause-ties : goal.publish_for-row-requires-clause-ties
publish_for-row-requires-clause-ties g c =
    let segment = c.args.segment.now in let n = c.args.n in let block = segment.block.now in
    let along = c.cell_tag-tag.ensures.run n (cells_here c.args.self.now segment c.requires.segment c.args.place c.requires.from n c.requires.within) in
    let cells = c.requires.run.1 ∙ ap (λ (i : ℕ). cells_from n i block.cells) c.requires.run.0 in
    subst (λ (ts : List Tie). AreTiedTo ts c.args.pen.cells) (sym c.offer_fill_run-offer.ensures.offer.0)
    (subst (λ (γs : List Names). AreTiedTo (run_of c.cell_tag-tag.result.tie n) γs) (sym cells) along)

pub publish_for-row-requires-clause-written : goal.publish_for-row-requires-clause-written
publish_for-row-requires-clause-written g c =
    c.requires.written ∙ sym (ap length c.requires.run.1 ∙ cells_length c.args.n c.args.pen.offset c.args.segment.now.block.now.cells)

-- the two clauses use the same terms: what the publication tells
pub returns-clause-works : goal.returns-clause-works
returns-clause-works g c =
    let offer = c.publish_for-row.result.1 in let hand = c.args.claims.now in let new = c.take_back_run.new.self in
    let same = c.publish_for-row.ensures.offer.1 in
    let lent = subst (λ about. IsLent about.table_id about.view hand c.offer_fill_run-offer.new.self) (sym same) c.offer_fill_run-offer.ensures.lent in
    let told = ap (λ about. about.told) same ∙ c.offer_fill_run-offer.ensures.offer.4 in
    let gained = subst (λ (ms : Option (List Made)). GainsAlong (fill_run_gains c.args.place offer.about.view) ms hand new) c.publish_for-row.ensures.made
    (subst (λ (p : ℕ). GainsAlong (fill_run_gains p offer.about.view) offer.made hand new) told (c.take_back_run.ensures.gained hand lent)) in
    let long : length c.args.pen.cells ≡ c.args.n = ap length c.requires.run.1 ∙ cells_length c.args.n c.args.pen.offset c.args.segment.now.block.now.cells in
    let along = subst (λ (n : ℕ). GainsAlong (fill_run_gains c.args.place offer.about.view) (Some (replicate n (Begun, Filled))) hand new) long gained in
    (filled_along c.args.place c.args.n c.runs_go_in_order.ensures.fills hand.of.floor offer.about.table_id offer.about.view hand new lent.seat along).0

pub returns-clause-adds : goal.returns-clause-adds
returns-clause-adds g c =
    let offer = c.publish_for-row.result.1 in let hand = c.args.claims.now in let new = c.take_back_run.new.self in
    let same = c.publish_for-row.ensures.offer.1 in
    let lent = subst (λ about. IsLent about.table_id about.view hand c.offer_fill_run-offer.new.self) (sym same) c.offer_fill_run-offer.ensures.lent in
    let told = ap (λ about. about.told) same ∙ c.offer_fill_run-offer.ensures.offer.4 in
    let gained = subst (λ (ms : Option (List Made)). GainsAlong (fill_run_gains c.args.place offer.about.view) ms hand new) c.publish_for-row.ensures.made
    (subst (λ (p : ℕ). GainsAlong (fill_run_gains p offer.about.view) offer.made hand new) told (c.take_back_run.ensures.gained hand lent)) in
    let long : length c.args.pen.cells ≡ c.args.n = ap length c.requires.run.1 ∙ cells_length c.args.n c.args.pen.offset c.args.segment.now.block.now.cells in
    let along = subst (λ (n : ℕ). GainsAlong (fill_run_gains c.args.place offer.about.view) (Some (replicate n (Begun, Filled))) hand new) long gained in
    (filled_along c.args.place c.args.n c.runs_go_in_order.ensures.fills hand.of.floor offer.about.table_id offer.about.view hand new lent.seat along).1
