use Rattle.std.proofs.Common.{subst, sym, ◌∙◌}
use Rattle.claim_core.specs.Hand.{HandView, OwnsPlace}
use Rattle.grow_core.specs.Keys.{IsKeyAt, layout_in}
use Rattle.grow_core.specs.Ties.{KnowsRow}
use Rattle.seg_core.specs.Segment.{HasPlace}
use Rattle.grow_core.proofs.KeyRows.{none_is_none}
use Rattle.grow_core.proofs.hand.Hand.key.Goals as goal

pub unreachable-requires : goal.unreachable-requires
unreachable-requires g c =
    let owned = subst (λ (h : HandView). OwnsPlace h c.args.place) (sym c.self.view_is) c.requires.owned in
    let there = subst (λ (h : HandView). HasPlace (layout_in h.of.mark) c.args.segment c.args.place) (sym c.self.view_is) c.requires.there in
    let has = c.self.invariant.0.own c.args.place c.args.segment c.requires.small owned there in
    none_is_none _ (sym c.key_of.ensures ∙ c.in-None.is) has

pub returns-clause-key : goal.returns-clause-key
returns-clause-key g c =
    subst (λ (h : HandView). IsKeyAt h.of.mark c.args.segment c.in-Some.key) c.self.view_is
    (c.self.invariant.0.keys c.args.segment c.in-Some.key c.requires.small (sym c.key_of.ensures ∙ c.in-Some.is))

pub returns-clause-row : goal.returns-clause-row
returns-clause-row g c =
    subst (λ (h : HandView). KnowsRow h c.args.segment c.in-Some.key.block) c.self.view_is
    (c.self.invariant.1 c.args.segment c.in-Some.key c.requires.small (sym c.key_of.ensures ∙ c.in-Some.is))
