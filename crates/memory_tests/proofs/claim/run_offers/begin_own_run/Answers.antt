-- By the public clauses of the hand and of the cells.
use Rattle.std.proofs.Common.{List, ap, sym, ◌∙◌, subst}
use Rattle.tie_core.specs.Tie.{Tie}
use Rattle.cell_core.specs.Run.{AreTiedTo, cells_from}
use Rattle.memory_tests.proofs.OffersInARow.{lent_on}
use Rattle.memory_tests.proofs.RunsOffered.{run_made, begun_run}
use Rattle.memory_tests.proofs.claim.run_offers.begin_own_run.Goals as goal

pub begin_run_for-pen-requires-clause-ties : goal.begin_run_for-pen-requires-clause-ties
begin_run_for-pen-requires-clause-ties g c =
    subst (λ (ts : List Tie). AreTiedTo ts (cells_from c.args.n c.args.offset c.args.cells.now.cells)) (sym c.offer_begin_run-offer.ensures.offer.0)
    c.requires.cells

pub begin_run_for-pen-requires-clause-step : goal.begin_run_for-pen-requires-clause-step
begin_run_for-pen-requires-clause-step g c =
    let offer = c.offer_begin_run-offer.ensures.offer in
    (offer.2, offer.3)

pub take_back_run-requires-clause-made : goal.take_back_run-requires-clause-made
take_back_run-requires-clause-made g c = run_made _ _ c.begin_run_for-pen.ensures.made

pub take_back_run-requires-clause-lent : goal.take_back_run-requires-clause-lent
take_back_run-requires-clause-lent g c =
    let about = c.begin_run_for-pen.ensures.offer.1 in
    (c.args.hand.now, lent_on (ap (λ a. a.table_id) about) (ap (λ a. a.view) about) c.offer_begin_run-offer.ensures.lent)

pub returns-clause-begun : goal.returns-clause-begun
returns-clause-begun g c =
    let about = c.begin_run_for-pen.ensures.offer.1 in
    begun_run c.begin_run_for-pen.result.1.about.told c.args.place c.args.n c.begin_run_for-pen.result.1.about.view
    c.begin_run_for-pen.result.1.made c.args.hand.now c.take_back_run.new.self
    (ap (λ a. a.told) about ∙ c.offer_begin_run-offer.ensures.offer.4) c.begin_run_for-pen.ensures.made
    (c.take_back_run.ensures.gained c.args.hand.now
    (lent_on (ap (λ a. a.table_id) about) (ap (λ a. a.view) about) c.offer_begin_run-offer.ensures.lent))
