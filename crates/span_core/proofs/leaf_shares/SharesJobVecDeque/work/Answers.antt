use Rattle.std.proofs.Common.{rules, get_or}
use Rattle.std.proofs.lemmas.Option.{slice_get-get_or}
use Rattle.span_core.specs.Shares.{GivesLeaf}
use Rattle.span_core.proofs.ShareLemmas.{share-grown}
use Rattle.span_core.proofs.leaf_shares.SharesJobVecDeque.work.Goals as goal

pub loop-next-preserved : goal.loop-next-preserved
loop-next-preserved g c =
    share-grown (GivesLeaf (g.L.LeafJob.gives c.args.self.now.each.now) c.args.self.now.leaves.now) c.args.self.now.workers c.args.worker
    c.loop-next.next c.loop-next.share.items c.push_back.new.self.items c.in_ok-answer.answer
    (search rules) (get_or c.args.self.now.leaves.now c.loop-next.next c.index-self-next.result, slice_get-get_or c.args.self.now.leaves.now c.loop-next.next c.index-self-next.result c.loop-next-test.true, c.in_ok-answer.ensures) c.loop-next.invariant
