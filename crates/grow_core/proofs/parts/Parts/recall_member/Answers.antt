use Rattle.std.proofs.Common.{◌≡◌, ℕ, ◌<◌, Some, sym, ap, ◌∙◌, subst}
use Rattle.std.specs.Prelude.{slice_get}
use Rattle.seg_core.specs.Segment.{segment_end}
use Rattle.grow_core.specs.Token.{PlacedView}
use Rattle.grow_core.specs.Parts.{PartsView}
use Rattle.grow_core.specs.Vector.{IsPlacedOf}
use Rattle.grow_core.proofs.Places.{value_at, broken_at}
use Rattle.grow_core.proofs.Settled.{same_name, same_member}
use Rattle.grow_core.proofs.parts.Parts.recall_member.Goals as goal

pub agree-requires : goal.agree-requires
agree-requires g c =
    let placed = c.placed.inside in let at = ap (λ (p : PlacedView g.row.T.Denot). p.place) c.placed.view_is in let first = c.cell_of-before in
    let token = subst (λ (p : PlacedView g.row.T.Denot). IsPlacedOf c.requires.of.0 p) (sym c.placed.view_is) c.requires.of.2 in
    let closed = ap (λ (v : PartsView g.row.T.Denot). v.closed) c.self.view_is ∙ c.requires.of.1 in
    same_name c.self.inside.table.layout c.places.ensures.one_place c.requires.of.0 _ token _ _ _ _ _ _ closed c.self.invariant.1 first.result.0 first.result.1 first.result.2 first.ensures.small first.ensures.key
    (first.ensures.place ∙ c.place-place.ensures ∙ sym at) (subst (λ (p : ℕ). p < segment_end c.self.inside.table.layout first.result.0) (c.place-place.ensures ∙ sym at) first.ensures.within)

pub member-requires-clause-epoch : goal.member-requires-clause-epoch
member-requires-clause-epoch g c = broken_at c.self.inside.epoch c.self.inside.row c.place-place.result c.at-member.result c.self.invariant.2 c.at-member.ensures

pub unreachable-requires : goal.unreachable-requires
unreachable-requires g c =
    let placed = c.placed.inside in let at = ap (λ (p : PlacedView g.row.T.Denot). p.place) c.placed.view_is in let first = c.cell_of-before in
    let token = subst (λ (p : PlacedView g.row.T.Denot). IsPlacedOf c.requires.of.0 p) (sym c.placed.view_is) c.requires.of.2 in
    let closed = ap (λ (v : PartsView g.row.T.Denot). v.closed) c.self.view_is ∙ c.requires.of.1 in
    let value = same_member c.self.inside.table.layout c.places.ensures.one_place c.requires.of.0 _ token _ _ _ _ _ _ closed c.self.invariant.1 first.result.0 first.result.1 first.result.2 first.ensures.small first.ensures.key
    (first.ensures.place ∙ c.place-place.ensures ∙ sym at) (subst (λ (p : ℕ). p < segment_end c.self.inside.table.layout first.result.0) (c.place-place.ensures ∙ sym at) first.ensures.within)
    c.at-member.result c.agree.ensures (ap (slice_get c.self.inside.row) (at ∙ sym c.place-place.ensures) ∙ c.at-member.ensures) c.agree-2.ensures in
    let none = c.in-None.ensures.value in let both = sym none ∙ value in absurd (let z = both in cc)

pub returns-clause-value : goal.returns-clause-value
returns-clause-value g c =
    let placed = c.placed.inside in let at = ap (λ (p : PlacedView g.row.T.Denot). p.place) c.placed.view_is in let first = c.cell_of-before in
    let token = subst (λ (p : PlacedView g.row.T.Denot). IsPlacedOf c.requires.of.0 p) (sym c.placed.view_is) c.requires.of.2 in
    let closed = ap (λ (v : PartsView g.row.T.Denot). v.closed) c.self.view_is ∙ c.requires.of.1 in
    let value = same_member c.self.inside.table.layout c.places.ensures.one_place c.requires.of.0 _ token _ _ _ _ _ _ closed c.self.invariant.1 first.result.0 first.result.1 first.result.2 first.ensures.small first.ensures.key
    (first.ensures.place ∙ c.place-place.ensures ∙ sym at) (subst (λ (p : ℕ). p < segment_end c.self.inside.table.layout first.result.0) (c.place-place.ensures ∙ sym at) first.ensures.within)
    c.at-member.result c.agree.ensures (ap (slice_get c.self.inside.row) (at ∙ sym c.place-place.ensures) ∙ c.at-member.ensures) c.agree-2.ensures in
    let both : Some c.in-Some.value.now ≡ Some c.placed.inside.cell.value = sym c.in-Some.ensures.value ∙ value in
    let one : c.in-Some.value.now ≡ c.placed.inside.cell.value = (let z = both in cc) in one ∙ ap (λ (p : PlacedView g.row.T.Denot). p.value) c.placed.view_is

pub returns-clause-member : goal.returns-clause-member
returns-clause-member g c =
    let placed = c.placed.inside in let at = ap (λ (p : PlacedView g.row.T.Denot). p.place) c.placed.view_is in let first = c.cell_of-before in
    let token = subst (λ (p : PlacedView g.row.T.Denot). IsPlacedOf c.requires.of.0 p) (sym c.placed.view_is) c.requires.of.2 in
    let closed = ap (λ (v : PartsView g.row.T.Denot). v.closed) c.self.view_is ∙ c.requires.of.1 in
    let value = same_member c.self.inside.table.layout c.places.ensures.one_place c.requires.of.0 _ token _ _ _ _ _ _ closed c.self.invariant.1 first.result.0 first.result.1 first.result.2 first.ensures.small first.ensures.key
    (first.ensures.place ∙ c.place-place.ensures ∙ sym at) (subst (λ (p : ℕ). p < segment_end c.self.inside.table.layout first.result.0) (c.place-place.ensures ∙ sym at) first.ensures.within)
    c.at-member.result c.agree.ensures (ap (slice_get c.self.inside.row) (at ∙ sym c.place-place.ensures) ∙ c.at-member.ensures) c.agree-2.ensures in
    ap (λ (v : PartsView g.row.T.Denot). slice_get v.members c.args.placed.now.place) (sym c.self.view_is) ∙ value_at c.self.inside.row c.args.placed.now.place c.at-member.result (ap (slice_get c.self.inside.row) (sym c.place-place.ensures) ∙ c.at-member.ensures)
    ∙ ap Some (value ∙ ap (λ (p : PlacedView g.row.T.Denot). Some p.value) c.placed.view_is)
