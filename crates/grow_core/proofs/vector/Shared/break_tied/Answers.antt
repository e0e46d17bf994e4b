use Rattle.std.proofs.Common.{ℕ, List, ◌<◌, arith, sym, subst, ap, ◌∙◌}
use Rattle.std.specs.Prelude.{Option}
use Rattle.tie_core.specs.Tie.{Made}
use Rattle.claim_core.specs.declared.role.RowAt.{RowAt}
use Rattle.claim_core.specs.Gain.{GainsBy, IsLent}
use Rattle.claim_core.specs.Plays.{spoil_gains}
use Rattle.claim_core.specs.Ties.{Finds}
use Rattle.cell_core.specs.Block.{BlockView, block_len}
use Rattle.grow_core.proofs.Works.{at_after, place_still, works_twice}
use Rattle.grow_core.proofs.TiedSteps.{broken_at}
use Rattle.grow_core.proofs.vector.Shared.break_tied.Goals as goal

pub begin_tied-pen-requires : goal.begin_tied-pen-requires
begin_tied-pen-requires g c =
    let tag = c.cell_tag-tag.ensures in let cell = c.requires.cell in
    let within = subst (λ (b : BlockView). c.args.offset < block_len b) (sym cell.block) cell.within in
    (omega arith, (c.requires.ours, (c.requires.owned, (c.requires.fresh, (within, (tag.tie, (tag.of, tag.found c.args.claims.now c.requires.ours c.requires.row)))))))

-- the hand knows the same rows after the begin
pub offer_spoil-offer-requires-clause-found : goal.offer_spoil-offer-requires-clause-found
offer_spoil-offer-requires-clause-found g c =
    subst (λ (l : List RowAt). Finds l c.args.place c.cell_tag-tag.result.tie.id) (sym c.begin_tied-pen.ensures.works.rows)
    (c.cell_tag-tag.ensures.found c.args.claims.now c.requires.ours c.requires.row)

-- and owns the same places
pub offer_spoil-offer-requires-clause-seen : goal.offer_spoil-offer-requires-clause-seen
offer_spoil-offer-requires-clause-seen g c =
    let own = place_still c.args.claims.now c.begin_tied-pen.new.claims c.begin_tied-pen.ensures.works.keeps c.args.place c.requires.owned in (own.0, own.2)

-- the two clauses use the same terms: what the step tells, after the begin
pub returns-clause-works : goal.returns-clause-works
returns-clause-works g c =
    let offer = c.spoil_for-spoilt.result.1 in let mid = c.begin_tied-pen.new.claims in let new = c.take_back.new.self in
    let same = c.spoil_for-spoilt.ensures.offer.1 in
    let lent = subst (λ about. IsLent about.table_id about.view mid c.offer_spoil-offer.new.self) (sym same) c.offer_spoil-offer.ensures.lent in
    let told = ap (λ about. about.told) same ∙ c.offer_spoil-offer.ensures.offer.3 in
    let gained = subst (λ (m : Option Made). GainsBy (spoil_gains c.args.place offer.about.view) m mid new) c.spoil_for-spoilt.ensures.made
    (subst (λ (p : ℕ). GainsBy (spoil_gains p offer.about.view) offer.made mid new) told (c.take_back.ensures.gained mid lent)) in
    let done = broken_at c.args.place c.runs_are_apart.ensures mid.of.floor offer.about.table_id offer.about.view mid new lent.seat gained in
    works_twice c.args.claims.now mid new c.args.place 1 c.begin_tied-pen.ensures.works done.0

pub returns-clause-adds : goal.returns-clause-adds
returns-clause-adds g c =
    let offer = c.spoil_for-spoilt.result.1 in let mid = c.begin_tied-pen.new.claims in let new = c.take_back.new.self in
    let same = c.spoil_for-spoilt.ensures.offer.1 in
    let lent = subst (λ about. IsLent about.table_id about.view mid c.offer_spoil-offer.new.self) (sym same) c.offer_spoil-offer.ensures.lent in
    let told = ap (λ about. about.told) same ∙ c.offer_spoil-offer.ensures.offer.3 in
    let gained = subst (λ (m : Option Made). GainsBy (spoil_gains c.args.place offer.about.view) m mid new) c.spoil_for-spoilt.ensures.made
    (subst (λ (p : ℕ). GainsBy (spoil_gains p offer.about.view) offer.made mid new) told (c.take_back.ensures.gained mid lent)) in
    let done = broken_at c.args.place c.runs_are_apart.ensures mid.of.floor offer.about.table_id offer.about.view mid new lent.seat gained in
    at_after c.args.claims.now mid new c.args.place _ c.begin_tied-pen.ensures.works done.1
