use Rattle.std.proofs.Common.{◌+◌, Some, sym, ap, subst, arith}
use Rattle.grow_core.specs.Published.{PublishedView}
use Rattle.grow_core.specs.ShownCells.{HoldOpened}
use Rattle.grow_core.specs.Vector.{VectorView}
use Rattle.grow_core.proofs.OpenedValues.{hold_at, steps_over}
use Rattle.grow_core.proofs.published.PublishedIterator.next.Goals as goal

pub invariant_of-self : goal.invariant_of-self
invariant_of-self g c =
    let p = c.self.inside in let i = c.self.invariant in let got = c.in-Some.ensures in
    let stop = ap (λ (v : PublishedView g.row.T.Denot). v.end) c.self.view_is in let same = ap (λ (v : PublishedView g.row.T.Denot). v.vector) c.self.view_is in
    (omega (arith, got.more), omega (arith, got.within, stop), i.2, subst (λ (v : VectorView g.row.T.Denot). HoldOpened v c.in-Some.from c.in-Some.filled.now) (sym same) got.opened)

pub returns-in-Some-clause-steps : goal.returns-in-Some-clause-steps
returns-in-Some-clause-steps g c =
    let p = c.self.inside in let got = c.in-Some.ensures in let here = ap (λ (v : PublishedView g.row.T.Denot). v.place) c.self.view_is in
    let stop = ap (λ (v : PublishedView g.row.T.Denot). v.end) c.self.view_is in let same = ap (λ (v : PublishedView g.row.T.Denot). v.vector) c.self.view_is in
    let opened = subst (λ (v : VectorView g.row.T.Denot). HoldOpened v c.in-Some.from c.in-Some.filled.now) (sym same) got.opened in
    steps_over _ p.vector.now (p.from + p.shown) (c.in-Some.from + (c.in-Some.shown + 1)) p.end c.self.view_is (omega (arith, got.place, got.more, got.within, here, stop)) (omega (arith, got.place, here)) (Some c.value_at.result)
    (hold_at p.vector.now c.in-Some.from c.in-Some.shown (p.from + p.shown) c.in-Some.filled.now _ (omega (arith, got.place, here)) c.value_at.ensures opened)
