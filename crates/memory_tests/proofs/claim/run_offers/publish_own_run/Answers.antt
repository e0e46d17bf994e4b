-- By the public clauses of the hand and of the cells.
use Rattle.std.proofs.Common.{ℕ, List, Some, replicate, ap, sym, ◌∙◌, subst}
use Rattle.tie_core.specs.Tie.{Tie, Begun, Filled}
use Rattle.cell_core.specs.Run.{AreTiedTo}
use Rattle.memory_tests.proofs.OffersInARow.{lent_on}
use Rattle.memory_tests.proofs.RunsOffered.{run_made, filled_run}
use Rattle.memory_tests.proofs.claim.run_offers.publish_own_run.Goals as goal

pub publish_for-row-requires-clause-written : goal.publish_for-row-requires-clause-written
publish_for-row-requires-clause-written g c = c.requires.written ∙ sym c.requires.long

pub publish_for-row-requires-clause-ties : goal.publish_for-row-requires-clause-ties
publish_for-row-requires-clause-ties g c =
    subst (λ (ts : List Tie). AreTiedTo ts c.args.pen.cells) (sym c.offer_fill_run-offer.ensures.offer.0) c.requires.cells

pub publish_for-row-requires-clause-step : goal.publish_for-row-requires-clause-step
publish_for-row-requires-clause-step g c =
    let offer = c.offer_fill_run-offer.ensures.offer in
    (offer.2, offer.3)

pub take_back_run-requires-clause-made : goal.take_back_run-requires-clause-made
take_back_run-requires-clause-made g c = run_made _ _ c.publish_for-row.ensures.made

pub take_back_run-requires-clause-lent : goal.take_back_run-requires-clause-lent
take_back_run-requires-clause-lent g c =
    let about = c.publish_for-row.ensures.offer.1 in
    (c.args.hand.now, lent_on (ap (λ a. a.table_id) about) (ap (λ a. a.view) about) c.offer_fill_run-offer.ensures.lent)

pub returns : goal.returns
returns g c =
    let about = c.publish_for-row.ensures.offer.1 in
    let lent = lent_on (ap (λ a. a.table_id) about) (ap (λ a. a.view) about) c.offer_fill_run-offer.ensures.lent in
    let fact =
    filled_run c.runs_go_in_order.ensures.fills c.publish_for-row.result.1.about.told c.args.place c.args.n _ _ c.publish_for-row.result.1.about.view
    c.publish_for-row.result.1.made c.args.hand.now c.take_back_run.new.self
    (ap (λ a. a.told) about ∙ c.offer_fill_run-offer.ensures.offer.4) lent.seat
    (c.publish_for-row.ensures.made ∙ ap (λ (n : ℕ). Some (replicate n (Begun, Filled))) c.requires.long)
    (c.take_back_run.ensures.gained c.args.hand.now lent) in
    record { filled = fact }
