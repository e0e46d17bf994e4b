use Rattle.std.proofs.Common.{◌+◌, Some, rules}
use Rattle.span_core.specs.Loops.{AnswersAt}
use Rattle.span_core.proofs.Folds.{sums-one, sums-merge}
use Rattle.span_core.proofs.MemberLemmas.{answers-at, left-next}
use Rattle.span_core.proofs.reduce.ReduceLeafLeafJobOption.work_leaf.Goals as goal

pub loop-place-preserved : goal.loop-place-preserved
loop-place-preserved g c =
    let post = goal.J-post g c.args.self.now.join.now in
    let each = goal.F-post g c.args.self.now.f.now in
    let all = c.args.self.now.list.now.members in
    let P : _ = AnswersAt each all in
    let answer = c.call_on_next-answer.result in
    let at = answers-at each all c.loop-place.members c.loop-place.place c.args.leaf.to (search rules) c.loop-place.invariant.1 answer c.call_on_next-answer.ensures.answer in (
      sums-merge post g.U.Domain.is_in P c.args.leaf.from c.loop-place.place (c.loop-place.place + 1) c.loop-place.sum (Some answer) c.merge-sum.result
          c.merge-sum.ensures c.loop-place.invariant.0 (sums-one post g.U.Domain.is_in P c.loop-place.place answer at c.tell.ensures),
      left-next each all c.loop-place.members c.loop-place.place c.args.leaf.to (search rules) c.loop-place.invariant.1 _ c.call_on_next-answer.ensures.rest,
    )
