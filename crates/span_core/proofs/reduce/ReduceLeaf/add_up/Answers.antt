use Rattle.std.proofs.Common.{rules, arith}
use Rattle.std.specs.Vec.Iter.{into_iter_items}
use Rattle.std.proofs.lemmas.List.{nil_from_length}
use Rattle.span_core.specs.Loops.{AnswersAt}
use Rattle.span_core.proofs.Folds.{sum-begins, sum-step, sum-all}
use Rattle.span_core.proofs.reduce.ReduceLeaf.add_up.Goals as goal

pub loop-part-init : goal.loop-part-init
loop-part-init g c = (
  sum-begins (goal.J-post g c.args.self.now.join.now) g.U.Domain.is_in (AnswersAt (goal.F-post g c.args.self.now.f.now) c.args.self.now.list.now.members)
      c.args.span c.args.parts.items (into_iter_items c.into_iter-part-iterator.result) (search rules) c.requires.parts,
  search rules,
)

pub loop-part-preserved : goal.loop-part-preserved
loop-part-preserved g c = (
  sum-step (goal.J-post g c.args.self.now.join.now) g.U.Domain.is_in (AnswersAt (goal.F-post g c.args.self.now.f.now) c.args.self.now.list.now.members)
      c.args.span.from c.args.span.to c.loop-part.sum c.in-Some.part c.merge-sum.result (into_iter_items c.loop-part.part-iterator) (into_iter_items c.next.new.self)
      (search rules) c.merge-sum.ensures c.loop-part.invariant.0,
  grind (arith, c.in-Some.ensures.steps.0, c.in-Some.ensures.steps.1, c.loop-part.invariant.1),
)

pub returns : goal.returns
returns g c =
    sum-all (goal.J-post g c.args.self.now.join.now) g.U.Domain.is_in (AnswersAt (goal.F-post g c.args.self.now.f.now) c.args.self.now.list.now.members)
    c.args.span.from c.args.span.to c.loop-part.sum (into_iter_items c.loop-part.part-iterator)
    (nil_from_length (into_iter_items c.loop-part.part-iterator) (omega (arith, c.loop-part.invariant.1, c.in-None.ensures.steps.0))) c.loop-part.invariant.0
