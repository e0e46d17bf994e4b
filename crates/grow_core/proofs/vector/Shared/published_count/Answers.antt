use Rattle.std.proofs.Common.{ℕ, ◌≤◌, ◌+◌, length, take, slice_get, sym, ap, ◌∙◌, subst, arith}
use Rattle.std.specs.Prelude.{filter, is_some}
use Rattle.std.proofs.lemmas.List.{take_all}
use Rattle.grow_core.specs.Published.{PublishedView}
use Rattle.grow_core.specs.Vector.{VectorView}
use Rattle.grow_core.proofs.Counted.{counts_next}
use Rattle.grow_core.proofs.vector.Shared.published_count.Goals as goal

pub loop-item-preserved : goal.loop-item-preserved
loop-item-preserved g c =
    let old = c.loop-item.item-iterator in let kept = c.loop-item.invariant in let steps = c.in-Some.ensures.steps in
    let place = ap (λ (p : PublishedView g.row.T.Denot). p.place) steps.1 in let end = ap (λ (p : PublishedView g.row.T.Denot). p.end) steps.1 in (
      tt,
      tt,
      ap (λ (p : PublishedView g.row.T.Denot). p.vector) steps.1 ∙ kept.2,
      omega (arith, kept.3, end),
      omega (arith, kept.4, end),
      omega (arith, kept.5, c.count_shown-count.ensures.few, place),
      subst (λ (n : ℕ). length (filter is_some (take n c.args.self.now.opened)) ≤ c.loop-item.count + c.count_shown-count.result) (sym place)
          (counts_next c.args.self.now.opened old.place c.loop-item.count c.count_shown-count.result c.in-Some.item
          (λ x there. steps.2 x (ap (λ (v : VectorView g.row.T.Denot). slice_get v.opened old.place) kept.2 ∙ there)) c.count_shown-count.ensures.value kept.6),
    )

pub returns-clause-opened : goal.returns-clause-opened
returns-clause-opened g c =
    let kept = c.loop-item.invariant in let opened = c.args.self.now.opened in
    let all = take_all c.loop-item.item-iterator.place opened (omega (arith, kept.3, c.laws.ensures.opened, c.in-None.ensures.steps.0)) in
    omega (arith, kept.6, ap (λ l. length (filter is_some l)) all)
