use Rattle.std.proofs.Common.{◌≡◌, ap, sym, subst, ◌∙◌, arith}
use Rattle.std.proofs.lemmas.Bool.Decides.{nat_tests}
use Rattle.cell_core.specs.Block.{IsPlacedIn}
use Rattle.grow_core.specs.Token.{PlacedView}
use Rattle.grow_core.specs.Vector.{IsPlacedOf}
use Rattle.grow_core.proofs.Cells.{same_cell, same_block}
use Rattle.grow_core.proofs.vector.Shared.agree.Goals as goal

pub agree-requires-then-place-clause-b : goal.agree-requires-then-place-clause-b
agree-requires-then-place-clause-b g c =
    let a = subst (λ (p : PlacedView g.row.T.Denot). IsPlacedOf c.args.self.now p) (sym c.a.view_is) c.requires.ours in
    let b = subst (λ (p : PlacedView g.row.T.Denot). IsPlacedOf c.args.self.now p) (sym c.b.view_is) c.requires.also_ours in
    let test : c.place.result ≡ c.place-2.result = grind (arith, nat_tests) in
    let same = ap (λ (p : PlacedView g.row.T.Denot). p.place) c.a.view_is ∙ (sym c.place.ensures ∙ (test ∙ (c.place-2.ensures ∙ sym (ap (λ (p : PlacedView g.row.T.Denot). p.place) c.b.view_is)))) in
    subst (λ block. IsPlacedIn block c.b.inside.cell) (sym c.known.ensures.block) (same_block c.places.ensures.one_place _ _ a _ b same c.agree.ensures)

pub returns-then-place : goal.returns-then-place
returns-then-place g c = λ at.
    let a = subst (λ (p : PlacedView g.row.T.Denot). IsPlacedOf c.args.self.now p) (sym c.a.view_is) c.requires.ours in
    let b = subst (λ (p : PlacedView g.row.T.Denot). IsPlacedOf c.args.self.now p) (sym c.b.view_is) c.requires.also_ours in
    let same = ap (λ (p : PlacedView g.row.T.Denot). p.place) c.a.view_is ∙ (at ∙ sym (ap (λ (p : PlacedView g.row.T.Denot). p.place) c.b.view_is)) in
    let cells = same_cell c.places.ensures.one_place _ _ a _ b same in
    sym (ap (λ (p : PlacedView g.row.T.Denot). p.value) c.a.view_is) ∙ (c.agree-then-place.ensures cells.1 ∙ ap (λ (p : PlacedView g.row.T.Denot). p.value) c.b.view_is)
