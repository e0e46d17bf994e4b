-- By the public clauses of the hand and of the pen.
use Rattle.std.proofs.Common.{Some, ap, sym, ◌∙◌, subst}
use Rattle.tie_core.specs.Tie.{IsMade}
use Rattle.memory_tests.proofs.OffersInARow.{lent_on, mended_on, mender_filled}
use Rattle.memory_tests.proofs.opened.steps.fill_mended.Goals as goal

pub fill_for-placed-requires-clause-tie : goal.fill_for-placed-requires-clause-tie
fill_for-placed-requires-clause-tie c = c.requires.cell ∙ ap Some (sym c.offer_fill_mended-offer.ensures.offer.0)

pub fill_for-placed-requires-clause-step : goal.fill_for-placed-requires-clause-step
fill_for-placed-requires-clause-step c =
    let offer = c.offer_fill_mended-offer.ensures.offer in
    (offer.1, offer.2)

pub take_back-requires-clause-made : goal.take_back-requires-clause-made
take_back-requires-clause-made c = subst IsMade (sym c.fill_for-placed.ensures.made) tt

pub take_back-requires-clause-lent : goal.take_back-requires-clause-lent
take_back-requires-clause-lent c =
    let about = c.fill_for-placed.ensures.offer.1 in
    (c.args.hand.now, lent_on (ap (λ a. a.table_id) about) (ap (λ a. a.view) about) c.offer_fill_mended-offer.ensures.lent)

pub returns : goal.returns
returns c =
    let about = c.fill_for-placed.ensures.offer.1 in
    let lent = lent_on (ap (λ a. a.table_id) about) (ap (λ a. a.view) about) c.offer_fill_mended-offer.ensures.lent in
    let gained = c.take_back.ensures.gained c.args.hand.now lent in
    let told = c.fill_for-placed.result.1.about.told in let view = c.fill_for-placed.result.1.about.view in
    record {
      goes_on = mended_on told view c.fill_for-placed.result.1.made c.args.hand.now c.take_back.new.self gained;
      filled = mender_filled told c.args.place _ _ view c.fill_for-placed.result.1.made c.args.hand.now c.take_back.new.self
          (ap (λ a. a.told) about ∙ c.offer_fill_mended-offer.ensures.offer.3) lent.seat c.fill_for-placed.ensures.made gained;
    }
