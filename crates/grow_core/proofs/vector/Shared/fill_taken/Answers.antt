use Rattle.std.proofs.Common.{ℕ, sym, subst, ap, ◌∙◌}
use Rattle.std.specs.Prelude.{Option}
use Rattle.tie_core.specs.Tie.{Made}
use Rattle.claim_core.specs.Word.{WordView}
use Rattle.claim_core.specs.Gain.{GainsBy, IsLent}
use Rattle.claim_core.specs.History.{fill_event, mender_of}
use Rattle.claim_core.specs.Plays.{fill_mended_gains}
use Rattle.grow_core.specs.Logs.{step_of}
use Rattle.grow_core.specs.Steps.{LooksAt}
use Rattle.grow_core.proofs.TiedSteps.{limit_of_seat, mended}
use Rattle.grow_core.proofs.vector.Shared.fill_taken.Goals as goal

pub offer_fill_mended-offer-requires-clause-found : goal.offer_fill_mended-offer-requires-clause-found
offer_fill_mended-offer-requires-clause-found g c = c.cell_tag-tag.ensures.found c.args.claims.now c.requires.ours c.requires.row

-- the hand gets its seat back, with the mender's fill
pub returns-clause-logs : goal.returns-clause-logs
returns-clause-logs g c =
    let offer = c.fill_for-placed.result.1 in let hand = c.args.claims.now in let new = c.take_back.new.self in
    let same = c.fill_for-placed.ensures.offer.1 in
    let lent = subst (λ about. IsLent about.table_id about.view hand c.offer_fill_mended-offer.new.self) (sym same) c.offer_fill_mended-offer.ensures.lent in
    let told = ap (λ about. about.told) same ∙ c.offer_fill_mended-offer.ensures.offer.3 in
    let gained = subst (λ (m : Option Made). GainsBy (fill_mended_gains c.args.place offer.about.view) m hand new) c.fill_for-placed.ensures.made
    (subst (λ (p : ℕ). GainsBy (fill_mended_gains p offer.about.view) offer.made hand new) told (c.take_back.ensures.gained hand lent)) in
    let limit = limit_of_seat hand.of.floor offer.about.table_id offer.about.view hand lent.seat ∙ ap (λ (w : WordView). w.limit) c.requires.ours in
    subst (λ (l : ℕ). LooksAt hand new (step_of (fill_event (mender_of l c.args.place) c.args.place))) limit (mended c.args.place offer.about.view hand new gained)
