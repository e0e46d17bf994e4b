use Rattle.std.proofs.Common.{ℕ, sym, subst, ap, ◌∙◌}
use Rattle.claim_core.specs.Gain.{GainsBy, IsLent}
use Rattle.claim_core.specs.Plays.{begin_gains}
use Rattle.grow_core.proofs.TiedSteps.{begun_of}
use Rattle.grow_core.proofs.vector.Shared.begin_tied.Goals as goal

-- the hand gets its seat back, and knows the place begun
pub returns-clause-works : goal.returns-clause-works
returns-clause-works g c =
    let offer = c.begin_for-pen.result.1 in let hand = c.args.claims.now in let new = c.take_back.new.self in
    let same = c.begin_for-pen.ensures.offer.1 in
    let lent = subst (λ about. IsLent about.table_id about.view hand c.offer_begin-offer.new.self) (sym same) c.offer_begin-offer.ensures.lent in
    let told = ap (λ about. about.told) same ∙ c.offer_begin-offer.ensures.offer.3 in
    let gained = subst (λ (p : ℕ). GainsBy (begin_gains p offer.about.view) offer.made hand new) told (c.take_back.ensures.gained hand lent) in
    begun_of c.args.place offer.about.view offer.made hand new gained
