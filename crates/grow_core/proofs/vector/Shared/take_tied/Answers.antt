use Rattle.std.proofs.Common.{ℕ, sym, subst, ap, ◌∙◌}
use Rattle.tie_core.specs.Tie.{Tie}
use Rattle.claim_core.specs.Word.{WordView}
use Rattle.claim_core.specs.Gain.{GainsBy, IsLent}
use Rattle.claim_core.specs.Plays.{mend_gains}
use Rattle.grow_core.specs.Shown.{try_steps}
use Rattle.grow_core.specs.Steps.{LooksAt}
use Rattle.grow_core.proofs.TiedSteps.{limit_of_seat, tried}
use Rattle.grow_core.proofs.vector.Shared.take_tied.Goals as goal

pub offer_mend-offer-requires-clause-found : goal.offer_mend-offer-requires-clause-found
offer_mend-offer-requires-clause-found g c = c.cell_tag-tag.ensures.found c.args.claims.now c.requires.ours c.requires.row

-- the cell's tie has a seat
pub mend_for-taken-requires-clause-seated : goal.mend_for-taken-requires-clause-seated
mend_for-taken-requires-clause-seated g c = ap (λ (t : Tie). t.fixed) c.offer_mend-offer.ensures.offer.0 ∙ c.cell_tag-tag.ensures.of.free

-- the hand gets its seat back, with the event of what the try found
pub returns-clause-logs : goal.returns-clause-logs
returns-clause-logs g c =
    let offer = c.mend_for-taken.result.1 in let taken = c.mend_for-taken.result.0 in let hand = c.args.claims.now in let new = c.take_back.new.self in
    let same = c.mend_for-taken.ensures.offer.1 in
    let lent = subst (λ about. IsLent about.table_id about.view hand c.offer_mend-offer.new.self) (sym same) c.offer_mend-offer.ensures.lent in
    let told = ap (λ about. about.told) same ∙ c.offer_mend-offer.ensures.offer.3 in
    let gained = subst (λ (p : ℕ). GainsBy (mend_gains p offer.about.view) offer.made hand new) told (c.take_back.ensures.gained hand lent) in
    let limit = limit_of_seat hand.of.floor offer.about.table_id offer.about.view hand lent.seat ∙ ap (λ (w : WordView). w.limit) c.requires.ours in
    subst (λ (l : ℕ). LooksAt hand new (try_steps l c.args.place taken)) limit
    (tried c.args.place offer.about.view offer.made taken hand new c.mend_for-taken.ensures.made c.mend_for-taken.ensures.lost gained)
