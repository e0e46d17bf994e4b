-- By the public clauses of the hand and of the cell.
use Rattle.std.proofs.Common.{Some, ap, sym, ◌∙◌}
use Rattle.memory_tests.proofs.OffersInARow.{lent_on, tried, tried_made, tried_on}
use Rattle.memory_tests.proofs.claim.offers.try_mend.Goals as goal

pub mend_for-taken-requires-clause-tie : goal.mend_for-taken-requires-clause-tie
mend_for-taken-requires-clause-tie g c = c.requires.cell ∙ ap Some (sym c.offer_mend-offer.ensures.offer.0)

pub mend_for-taken-requires-clause-step : goal.mend_for-taken-requires-clause-step
mend_for-taken-requires-clause-step g c =
    let offer = c.offer_mend-offer.ensures.offer in
    (offer.1, offer.2)

pub mend_for-taken-requires-clause-seated : goal.mend_for-taken-requires-clause-seated
mend_for-taken-requires-clause-seated g c = ap (λ t. t.fixed) c.offer_mend-offer.ensures.offer.0 ∙ c.requires.tied.free

pub take_back-requires-clause-made : goal.take_back-requires-clause-made
take_back-requires-clause-made g c =
    tried_made c.mend_for-taken.result.1.made c.mend_for-taken.result.0 c.mend_for-taken.ensures.made c.mend_for-taken.ensures.lost

pub take_back-requires-clause-lent : goal.take_back-requires-clause-lent
take_back-requires-clause-lent g c =
    let about = c.mend_for-taken.ensures.offer.1 in
    (c.args.hand.now, lent_on (ap (λ a. a.table_id) about) (ap (λ a. a.view) about) c.offer_mend-offer.ensures.lent)

pub returns : goal.returns
returns g c =
    let about = c.mend_for-taken.ensures.offer.1 in
    let lent = lent_on (ap (λ a. a.table_id) about) (ap (λ a. a.view) about) c.offer_mend-offer.ensures.lent in
    let gained = c.take_back.ensures.gained c.args.hand.now lent in
    let told = c.mend_for-taken.result.1.about.told in let view = c.mend_for-taken.result.1.about.view in
    record {
      pen = c.mend_for-taken.ensures.pen;
      tried = tried told c.args.place _ _ view c.mend_for-taken.result.1.made c.args.hand.now c.take_back.new.self c.mend_for-taken.result.0
          (ap (λ a. a.told) about ∙ c.offer_mend-offer.ensures.offer.3) lent.seat c.mend_for-taken.ensures.made c.mend_for-taken.ensures.lost
          c.mend_for-taken.ensures.not_broken gained;
      goes_on = tried_on told view c.mend_for-taken.result.1.made c.args.hand.now c.take_back.new.self gained;
    }
