-- By the public clauses of the hand and of the cell.
use Rattle.std.proofs.Common.{Some, ap, sym, ◌∙◌}
use Rattle.tie_core.specs.Tie.{looks}
use Rattle.memory_tests.proofs.OffersInARow.{is_made, lent_on, looked, looked_on}
use Rattle.memory_tests.proofs.claim.offers.look_at.Goals as goal

pub look_for-look-requires-clause-tie : goal.look_for-look-requires-clause-tie
look_for-look-requires-clause-tie g c = c.requires.cell ∙ ap Some (sym c.offer_look-offer.ensures.offer.0)

pub look_for-look-requires-clause-step : goal.look_for-look-requires-clause-step
look_for-look-requires-clause-step g c =
    let offer = c.offer_look-offer.ensures.offer in
    (offer.1, offer.2)

pub take_back-requires-clause-made : goal.take_back-requires-clause-made
take_back-requires-clause-made g c = is_made looks _ c.look_for-look.result.1.made c.look_for-look.ensures.made.1

pub take_back-requires-clause-lent : goal.take_back-requires-clause-lent
take_back-requires-clause-lent g c =
    let about = c.look_for-look.ensures.offer.1 in
    (c.args.hand.now, lent_on (ap (λ a. a.table_id) about) (ap (λ a. a.view) about) c.offer_look-offer.ensures.lent)

pub returns : goal.returns
returns g c =
    let about = c.look_for-look.ensures.offer.1 in
    let gained = c.take_back.ensures.gained c.args.hand.now
    (lent_on (ap (λ a. a.table_id) about) (ap (λ a. a.view) about) c.offer_look-offer.ensures.lent) in
    let told = c.look_for-look.result.1.about.told in let view = c.look_for-look.result.1.about.view in
    record {
      looked = looked told c.args.place view c.look_for-look.result.1.made c.args.hand.now c.take_back.new.self
          (ap (λ a. a.told) about ∙ c.offer_look-offer.ensures.offer.3) gained;
      goes_on = looked_on told view c.look_for-look.result.1.made c.args.hand.now c.take_back.new.self gained;
    }
