use Rattle.std.proofs.Common.{◌≡◌, ℕ, ◌<◌, ◌≤◌, Some, sym, ap, ◌∙◌, subst, arith}
use Rattle.std.proofs.lemmas.Bool.Decides.{nat_tests}
use Rattle.std.proofs.lemmas.List.{length-map}
use Rattle.std.specs.Prelude.{slice_get}
use Rattle.seg_core.specs.Segment.{segment_end}
use Rattle.cell_core.specs.Block.{cell_at}
use Rattle.cell_core.specs.Member.{MemberView}
use Rattle.grow_core.specs.Token.{PlacedView, place_in}
use Rattle.grow_core.specs.Parts.{values_in}
use Rattle.grow_core.specs.Vector.{VectorView, IsPlacedOf}
use Rattle.grow_core.proofs.Places.{value_at, within_length}
use Rattle.grow_core.proofs.Settled.{token_cell, opened_is}
use Rattle.grow_core.proofs.vector.Shared.opened_agrees.Goals as goal

pub returns-in-Some : goal.returns-in-Some
returns-in-Some g c = λ x there.
    let whole = c.self.invariant.whole in let f : ℕ = c.self.inside.table.layout in let here = c.in-Some in let segment : ℕ = here._segment in let offset : ℕ = here._offset in let key = here.key in let placed = c.placed.inside in let m = c.at.result in
    let at = ap (λ (p : PlacedView g.row.T.Denot). p.place) c.placed.view_is in
    let token = subst (λ (p : PlacedView g.row.T.Denot). IsPlacedOf c.args.self.now p) (sym c.placed.view_is) c.requires in
    let cell = token_cell f c.places.ensures.one_place segment offset c.args.self.now _ (ap (λ (v : VectorView g.row.T.Denot). v.segments.layout) (sym c.self.view_is)) token (here.ensures.place ∙ c.place-place.ensures ∙ sym at)
    (subst (λ (p : ℕ). p < segment_end f segment) (c.place-place.ensures ∙ sym at) here.ensures.within) in
    let key_is = whole.named segment key here.ensures.small here.ensures.key in
    let same : key.block ≡ placed.key.block = c.agree.ensures (key_is.at ∙ sym cell.0) in
    let known : slice_get c.self.inside.row (place_in f segment offset) ≡ Some m = ap (slice_get c.self.inside.row) here.ensures.place ∙ c.at.ensures in
    let inside : place_in f segment offset < segment_end f segment = subst (λ (p : ℕ). p < segment_end f segment) (sym here.ensures.place) here.ensures.within in
    let member = whole.of segment offset key m here.ensures.small here.ensures.key inside known in
    let opened : Some m.value ≡ Some (Some x) = sym (value_at c.self.inside.row c.place-place.result m c.at.ensures) ∙ ap (slice_get (values_in c.self.inside.row)) c.place-place.ensures
    ∙ ap (λ (v : VectorView g.row.T.Denot). slice_get v.opened c.args.placed.now.place) c.self.view_is ∙ there in
    let is : m.value ≡ Some x = (let z = opened in cc) in
    let named : placed.cell.name ≡ (cell_at key.block offset).value_name = token.cell.named ∙ (λ i. (cell_at (sym same i) (cell.1 i)).value_name) in
    sym (ap (λ (p : PlacedView g.row.T.Denot). p.value) c.placed.view_is) ∙ opened_is key.block offset m placed.cell.name placed.cell.value x member is named c.agree-in-Some.ensures

pub returns-else-place-base : goal.returns-else-place-base
returns-else-place-base g c = λ x there.
    let test : c.base.result ≤ c.place-place.result = grind (arith, nat_tests) in
    let opened : slice_get (values_in c.self.inside.row) c.args.placed.now.place ≡ Some (Some x) = ap (λ (v : VectorView g.row.T.Denot). slice_get v.opened c.args.placed.now.place) c.self.view_is ∙ there in
    let near = within_length (values_in c.self.inside.row) c.args.placed.now.place (Some x) opened in
    let counted = length-map c.self.inside.row (λ (u : MemberView g.row.T.Denot). u.value) in let all = c.self.invariant.whole.all in
    let base = c.base.ensures in let place = c.place-place.ensures in
    absurd (omega (arith, near, counted, all, base, place, test))
