use Rattle.std.proofs.Common.{◌≡◌, ◌<◌, ℕ, List, sym, ap, ◌∙◌, subst, arith}
use Rattle.seg_core.specs.Segment.{segment_end}
use Rattle.claim_core.specs.Hand.{HandView}
use Rattle.claim_core.specs.History.{Log, Adds}
use Rattle.cell_core.specs.Block.{BlockView, block_len}
use Rattle.cell_core.specs.Shown.{IsLookAt}
use Rattle.table_core.specs.Table.{IsBlockOf}
use Rattle.grow_core.specs.declared.read.Shown.TheVariants as shown
use Rattle.grow_core.specs.Read.{IsShownAt}
use Rattle.grow_core.specs.Shown.{shown_steps}
use Rattle.grow_core.specs.Token.{place_in}
use Rattle.grow_core.specs.Vector.{IsOpenedAt, layout_of}
use Rattle.grow_core.proofs.Adds.{steps_after}
use Rattle.grow_core.proofs.FinishedPlaces.{opened_shown}
use Rattle.grow_core.proofs.Works.{finds_on, hand_still}
use Rattle.grow_core.proofs.vector.Shared.look_for.Goals as goal

pub invariant_of-hand : goal.invariant_of-hand
invariant_of-hand g c =
    hand_still c.hand.inside.claims c.scout_tied.new.claims c.scout_tied.ensures.finds.keeps c.scout_tied.ensures.finds.rows c.hand.inside.keys c.hand.invariant

-- a value of the opened list is found at its place
pub returns-in_default-clause-opened : goal.returns-in_default-clause-opened
returns-in_default-clause-opened g c x is =
    opened_shown c.args.self.now c.args.place x is c.laws.ensures.opened c.laws.ensures.filled c.hand.inside.claims c.scout_tied.new.claims
    (c.scout_tied.ensures.finds.keeps.own.of ∙ ap (λ (h : HandView). h.of) c.hand.view_is ∙ c.requires.ours) c.laws-in_default.ensures.history c.opened_values_are_found.ensures.found shown.Pending c.in_default.ensures.logs.adds tt

pub shown_in-requires : goal.shown_in-requires
shown_in-requires g c =
    let key = c.in-Some.key in let is = c.in-Some.ensures.key in let f : ℕ = layout_of c.args.self.now in let at = c.locate-segment in
    let here : IsBlockOf f at.result.0 c.in-Some.block.now = c.in-Some.ensures.block.length in
    let long : IsBlockOf f key.segment key.block = subst (λ (s : ℕ). IsBlockOf f s key.block) (sym is.at) (subst (λ (b : BlockView). IsBlockOf f at.result.0 b) (sym is.of) here) in
    let looks : IsLookAt key.block at.result.1 c.look_tied-look.result = subst (λ (b : BlockView). IsLookAt b at.result.1 c.look_tied-look.result) (sym is.of) c.look_tied-look.ensures.look in
    let starts = subst (λ (k : ℕ). place_in k at.result.0 at.result.1 ≡ c.args.place) c.layout.ensures at.ensures.offset in
    let ends = subst (λ (k : ℕ). c.args.place < segment_end k at.result.0) c.layout.ensures at.ensures.segment.before in
    let len = ap block_len is.of in
    (omega arith, (is.inside, (long, (at.result.1, omega (arith, starts, ends, here, len), looks))))

pub invariant_of-hand-2 : goal.invariant_of-hand-2
invariant_of-hand-2 g c =
    let first = c.scout_tied.ensures.finds in let then = c.look_tied-look.ensures.logs.finds in
    let finds = finds_on c.hand.inside.claims c.scout_tied.new.claims c.look_tied-look.new.claims first then in
    hand_still c.hand.inside.claims c.look_tied-look.new.claims finds.keeps finds.rows c.hand.inside.keys c.hand.invariant

pub returns-clause-shown : goal.returns-clause-shown
returns-clause-shown g c =
    let key = c.in-Some.key in let is = c.in-Some.ensures.key in let f : ℕ = layout_of c.args.self.now in let at = c.locate-segment in
    let here : IsBlockOf f at.result.0 c.in-Some.block.now = c.in-Some.ensures.block.length in
    let looks : IsLookAt key.block at.result.1 c.look_tied-look.result = subst (λ (b : BlockView). IsLookAt b at.result.1 c.look_tied-look.result) (sym is.of) c.look_tied-look.ensures.look in
    let starts = subst (λ (k : ℕ). place_in k at.result.0 at.result.1 ≡ c.args.place) c.layout.ensures at.ensures.offset in
    let ends = subst (λ (k : ℕ). c.args.place < segment_end k at.result.0) c.layout.ensures at.ensures.segment.before in
    let len = ap block_len is.of in
    let spot : place_in f key.segment at.result.1 ≡ c.args.place = ap (λ (s : ℕ). place_in f s at.result.1) is.at ∙ starts in
    subst (λ (p : ℕ). IsShownAt c.args.self.now p c.shown_in.result) spot (c.shown_in.ensures.shown at.result.1 (omega (arith, starts, ends, here, len)) looks)

-- the look comes after what the hand found
pub returns-clause-logs : goal.returns-clause-logs
returns-clause-logs g c =
    let hand = c.hand.inside.claims in let mid = c.scout_tied.new.claims in let new = c.look_tied-look.new.claims in
    let adds : Adds mid.log (shown_steps c.args.place c.shown_in.result) new.log =
    subst (λ (l : List Log). Adds mid.log l new.log) (sym (c.shown_in.ensures.steps c.args.place)) c.look_tied-look.ensures.logs.adds in
    subst (λ (h : HandView). Adds h.log (shown_steps c.args.place c.shown_in.result) new.log) c.hand.view_is
    (steps_after hand.log mid.log new.log (shown_steps c.args.place c.shown_in.result) c.scout_tied.ensures.finds.more adds)

pub returns-clause-opened : goal.returns-clause-opened
returns-clause-opened g c x is =
    let key = c.in-Some.key in let key_is = c.in-Some.ensures.key in let f : ℕ = layout_of c.args.self.now in let at = c.locate-segment in
    let here : IsBlockOf f at.result.0 c.in-Some.block.now = c.in-Some.ensures.block.length in
    let looks : IsLookAt key.block at.result.1 c.look_tied-look.result = subst (λ (b : BlockView). IsLookAt b at.result.1 c.look_tied-look.result) (sym key_is.of) c.look_tied-look.ensures.look in
    let starts = subst (λ (k : ℕ). place_in k at.result.0 at.result.1 ≡ c.args.place) c.layout.ensures at.ensures.offset in
    let ends = subst (λ (k : ℕ). c.args.place < segment_end k at.result.0) c.layout.ensures at.ensures.segment.before in
    let len = ap block_len key_is.of in
    let spot : place_in f key.segment at.result.1 ≡ c.args.place = ap (λ (s : ℕ). place_in f s at.result.1) key_is.at ∙ starts in
    opened_shown c.args.self.now c.args.place x is c.laws.ensures.opened c.laws.ensures.filled c.args.hand.now c.look_tied-look.new.claims
    (c.look_tied-look.ensures.logs.finds.keeps.own.of ∙ c.scout_tied.ensures.finds.keeps.own.of ∙ ap (λ (h : HandView). h.of) c.hand.view_is ∙ c.requires.ours) c.laws-3.ensures.history c.opened_values_are_found.ensures.found c.shown_in.result (returns-clause-logs g c)
    (c.shown_in.ensures.opened at.result.1 x (omega (arith, starts, ends, here, len)) looks (subst (λ (p : ℕ). IsOpenedAt c.args.self.now p x) (sym spot) is))
