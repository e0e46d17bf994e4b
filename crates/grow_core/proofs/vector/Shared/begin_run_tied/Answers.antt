use Rattle.std.proofs.Common.{◌-◌, arith, ℕ, List, sym, subst, ap, ◌∙◌}
use Rattle.std.specs.Prelude.{Option}
use Rattle.tie_core.specs.Tie.{Tie, Made}
use Rattle.claim_core.specs.Gain.{GainsAlong, IsLent}
use Rattle.claim_core.specs.Plays.{begin_run_gains}
use Rattle.cell_core.specs.Run.{AreTiedTo, cells_from}
use Rattle.grow_core.proofs.TiedCells.{cell_here, cells_here, row_here}
use Rattle.grow_core.proofs.TiedSteps.{begun_along}
use Rattle.grow_core.proofs.vector.Shared.begin_run_tied.Goals as goal

pub cell_tag-tag-requires : goal.cell_tag-tag-requires
cell_tag-tag-requires g c =
    let cell = cell_here c.args.self.now c.args.segment.now c.requires.segment c.args.place c.requires.from (omega (arith, c.requires.within, c.requires.some)) in
    (omega arith, cell)

pub offer_begin_run-offer-requires-clause-found : goal.offer_begin_run-offer-requires-clause-found
offer_begin_run-offer-requires-clause-found g c =
    let segment = c.args.segment.now in let hand = c.args.claims.now in
    c.cell_tag-tag.ensures.found_run hand c.args.n c.requires.ours (row_here c.args.self.now segment hand c.requires.segment c.requires.row)
    (cells_here c.args.self.now segment c.requires.segment c.args.place c.requires.from c.args.n c.requires.within)

pub offer_begin_run-offer-requires-clause-own : goal.offer_begin_run-offer-requires-clause-own
offer_begin_run-offer-requires-clause-own g c = λ place above below. c.requires.owned place (above, below)

pub begin_run_for-pen-requires-clause-ties : goal.begin_run_for-pen-requires-clause-ties
begin_run_for-pen-requires-clause-ties g c =
    let segment = c.args.segment.now in let n = c.args.n in
    subst (λ (ts : List Tie). AreTiedTo ts (cells_from n (c.args.place - segment.from) segment.block.now.cells)) (sym c.offer_begin_run-offer.ensures.offer.0)
    (c.cell_tag-tag.ensures.run n (cells_here c.args.self.now segment c.requires.segment c.args.place c.requires.from n c.requires.within))

pub begin_run_for-pen-requires-clause-within : goal.begin_run_for-pen-requires-clause-within
begin_run_for-pen-requires-clause-within g c =
    cells_here c.args.self.now c.args.segment.now c.requires.segment c.args.place c.requires.from c.args.n c.requires.within

-- the hand gets its seat back, and knows the places begun
pub returns-clause-works : goal.returns-clause-works
returns-clause-works g c =
    let offer = c.begin_run_for-pen.result.1 in let hand = c.args.claims.now in let new = c.take_back_run.new.self in
    let same = c.begin_run_for-pen.ensures.offer.1 in
    let lent = subst (λ about. IsLent about.table_id about.view hand c.offer_begin_run-offer.new.self) (sym same) c.offer_begin_run-offer.ensures.lent in
    let told = ap (λ about. about.told) same ∙ c.offer_begin_run-offer.ensures.offer.4 in
    let gained = subst (λ (ms : Option (List Made)). GainsAlong (begin_run_gains c.args.place offer.about.view) ms hand new) c.begin_run_for-pen.ensures.made
    (subst (λ (p : ℕ). GainsAlong (begin_run_gains p offer.about.view) offer.made hand new) told (c.take_back_run.ensures.gained hand lent)) in
    begun_along c.args.place c.args.n c.runs_go_in_order.ensures.begins offer.about.view hand new gained
