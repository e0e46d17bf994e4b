use Rattle.std.proofs.Common.{ℕ, sym, subst, ap, ◌∙◌}
use Rattle.claim_core.specs.Gain.{GainsBy, IsLent}
use Rattle.claim_core.specs.Plays.{look_gains}
use Rattle.grow_core.proofs.TiedSteps.{looked}
use Rattle.grow_core.proofs.vector.Shared.look_tied.Goals as goal

pub offer_look-offer-requires-clause-found : goal.offer_look-offer-requires-clause-found
offer_look-offer-requires-clause-found g c = c.cell_tag-tag.ensures.found c.args.claims.now c.requires.ours c.requires.row

-- the hand gets its seat back, with the event of what the look showed
pub returns-clause-logs : goal.returns-clause-logs
returns-clause-logs g c =
    let offer = c.look_for-look.result.1 in let hand = c.args.claims.now in let new = c.take_back.new.self in
    let same = c.look_for-look.ensures.offer.1 in
    let made = c.look_for-look.ensures.made in
    let lent = subst (λ about. IsLent about.table_id about.view hand c.offer_look-offer.new.self) (sym same) c.offer_look-offer.ensures.lent in
    let told = ap (λ about. about.told) same ∙ c.offer_look-offer.ensures.offer.3 in
    let gained = subst (λ (p : ℕ). GainsBy (look_gains p offer.about.view) offer.made hand new) told (c.take_back.ensures.gained hand lent) in
    looked c.args.place offer.about.view offer.made c.look_for-look.result.0 made.0 hand new made.1 made.2 gained
