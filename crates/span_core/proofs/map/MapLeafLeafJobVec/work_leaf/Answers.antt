use Rattle.std.proofs.Common.{rules}
use Rattle.span_core.specs.Loops.{AnswersAt}
use Rattle.span_core.proofs.Each.{EachFrom-push}
use Rattle.span_core.proofs.MemberLemmas.{answers-at, left-next}
use Rattle.span_core.proofs.map.MapLeafLeafJobVec.work_leaf.Goals as goal

pub loop-place-preserved : goal.loop-place-preserved
loop-place-preserved g c =
    let post = goal.F-post g c.args.self.now.f.now in
    let all = c.args.self.now.list.now.members in
    let is = c.loop-place.invariant.2 in
    let answer = c.call_on_next-answer in
    let at = answers-at post all c.loop-place.members c.loop-place.place c.args.leaf.to (search rules) is answer.result answer.ensures.answer in
    let pushed = EachFrom-push (AnswersAt post all) c.args.leaf.from c.loop-place.place
    c.loop-place.answers.items c.push.new.self.items answer.result (search rules) at (c.loop-place.invariant.0, c.loop-place.invariant.1) in (
      pushed.0,
      pushed.1,
      left-next post all c.loop-place.members c.loop-place.place c.args.leaf.to (search rules) is _ answer.ensures.rest,
    )
