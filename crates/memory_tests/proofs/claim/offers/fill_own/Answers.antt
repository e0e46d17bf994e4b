-- By the public clauses of the hand and of the cell.
use Rattle.std.proofs.Common.{Some, ap, sym, ◌∙◌, subst}
use Rattle.tie_core.specs.Tie.{IsMade, begins}
use Rattle.memory_tests.proofs.OffersInARow.{is_made, lent_on, begun, still_found, still_seen, filled, of_same_word}
use Rattle.memory_tests.proofs.claim.offers.fill_own.Goals as goal

pub begin_for-pen-requires-clause-tie : goal.begin_for-pen-requires-clause-tie
begin_for-pen-requires-clause-tie g c = c.requires.cell ∙ ap Some (sym c.offer_begin-offer.ensures.offer.0)

pub begin_for-pen-requires-clause-step : goal.begin_for-pen-requires-clause-step
begin_for-pen-requires-clause-step g c =
    let offer = c.offer_begin-offer.ensures.offer in
    (offer.1, offer.2)

pub take_back-requires-clause-made : goal.take_back-requires-clause-made
take_back-requires-clause-made g c = is_made begins _ c.begin_for-pen.result.1.made c.begin_for-pen.ensures.made

pub take_back-requires-clause-lent : goal.take_back-requires-clause-lent
take_back-requires-clause-lent g c =
    let about = c.begin_for-pen.ensures.offer.1 in
    (c.args.hand.now, lent_on (ap (λ a. a.table_id) about) (ap (λ a. a.view) about) c.offer_begin-offer.ensures.lent)

pub offer_fill-offer-requires-clause-ours : goal.offer_fill-offer-requires-clause-ours
offer_fill-offer-requires-clause-ours g c =
    let about = c.begin_for-pen.ensures.offer.1 in
    let first =
    begun c.begin_for-pen.result.1.about.told c.args.place c.begin_for-pen.result.1.about.view c.begin_for-pen.result.1.made c.args.hand.now
    c.take_back.new.self (ap (λ a. a.told) about ∙ c.offer_begin-offer.ensures.offer.3)
    (c.take_back.ensures.gained c.args.hand.now
    (lent_on (ap (λ a. a.table_id) about) (ap (λ a. a.view) about) c.offer_begin-offer.ensures.lent)) in
    first.of ∙ c.requires.ours

pub offer_fill-offer-requires-clause-found : goal.offer_fill-offer-requires-clause-found
offer_fill-offer-requires-clause-found g c =
    let about = c.begin_for-pen.ensures.offer.1 in
    let first =
    begun c.begin_for-pen.result.1.about.told c.args.place c.begin_for-pen.result.1.about.view c.begin_for-pen.result.1.made c.args.hand.now
    c.take_back.new.self (ap (λ a. a.told) about ∙ c.offer_begin-offer.ensures.offer.3)
    (c.take_back.ensures.gained c.args.hand.now
    (lent_on (ap (λ a. a.table_id) about) (ap (λ a. a.view) about) c.offer_begin-offer.ensures.lent)) in
    still_found _ _ _ first _ c.requires.found

pub offer_fill-offer-requires-clause-seen : goal.offer_fill-offer-requires-clause-seen
offer_fill-offer-requires-clause-seen g c =
    let about = c.begin_for-pen.ensures.offer.1 in
    let first =
    begun c.begin_for-pen.result.1.about.told c.args.place c.begin_for-pen.result.1.about.view c.begin_for-pen.result.1.made c.args.hand.now
    c.take_back.new.self (ap (λ a. a.told) about ∙ c.offer_begin-offer.ensures.offer.3)
    (c.take_back.ensures.gained c.args.hand.now
    (lent_on (ap (λ a. a.table_id) about) (ap (λ a. a.view) about) c.offer_begin-offer.ensures.lent)) in
    still_seen _ _ _ first c.requires.own

pub fill_for-placed-requires-clause-tie : goal.fill_for-placed-requires-clause-tie
fill_for-placed-requires-clause-tie g c =
    ap (λ n. n.tied) c.begin_for-pen.ensures.pen.cell ∙ (c.requires.cell ∙ ap Some (sym c.offer_fill-offer.ensures.offer.0))

pub fill_for-placed-requires-clause-step : goal.fill_for-placed-requires-clause-step
fill_for-placed-requires-clause-step g c =
    let offer = c.offer_fill-offer.ensures.offer in
    (offer.1, offer.2)

pub take_back-requires-2-clause-made : goal.take_back-requires-2-clause-made
take_back-requires-2-clause-made g c = subst IsMade (sym c.fill_for-placed.ensures.made) tt

pub take_back-requires-2-clause-lent : goal.take_back-requires-2-clause-lent
take_back-requires-2-clause-lent g c =
    let about = c.fill_for-placed.ensures.offer.1 in
    (c.take_back.new.self, lent_on (ap (λ a. a.table_id) about) (ap (λ a. a.view) about) c.offer_fill-offer.ensures.lent)

pub returns : goal.returns
returns g c =
    let about = c.begin_for-pen.ensures.offer.1 in
    let first =
    begun c.begin_for-pen.result.1.about.told c.args.place c.begin_for-pen.result.1.about.view c.begin_for-pen.result.1.made c.args.hand.now
    c.take_back.new.self (ap (λ a. a.told) about ∙ c.offer_begin-offer.ensures.offer.3)
    (c.take_back.ensures.gained c.args.hand.now
    (lent_on (ap (λ a. a.table_id) about) (ap (λ a. a.view) about) c.offer_begin-offer.ensures.lent)) in
    let kept = c.fill_for-placed.ensures.offer.1 in
    let lent = lent_on (ap (λ a. a.table_id) kept) (ap (λ a. a.view) kept) c.offer_fill-offer.ensures.lent in
    let fact =
    filled c.runs_are_apart.ensures c.events_follow.ensures c.fill_for-placed.result.1.about.told c.args.place _ _ c.fill_for-placed.result.1.about.view
    c.fill_for-placed.result.1.made c.args.hand.now c.take_back.new.self c.take_back-2.new.self c.requires.own first lent.seat c.fill_for-placed.ensures.made
    (ap (λ a. a.told) kept ∙ c.offer_fill-offer.ensures.offer.3)
    (c.take_back-2.ensures.gained c.take_back.new.self lent) in
    let same =
    of_same_word c.fill_for-placed.result.1.about.told c.fill_for-placed.result.1.about.view c.fill_for-placed.result.1.made c.take_back.new.self
    c.take_back-2.new.self (c.take_back-2.ensures.gained c.take_back.new.self lent) in
    record { of = same ∙ first.of; filled = fact }
