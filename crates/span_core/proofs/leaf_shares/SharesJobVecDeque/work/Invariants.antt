use Rattle.std.proofs.Common.{◌≡◌, ◌+◌, ◌-◌, ◌*◌, length}
use Rattle.span_core.specs.Each.{EachFrom}
use Rattle.span_core.specs.Shares.{GivesLeaf}
use Rattle.span_core.proofs.leaf_shares.SharesJobVecDeque.work.Given as goal

abbrev pub invariant-loop-next : goal.invariant-loop-next
invariant-loop-next g l =
    (l.next ≡ l.worker + length l.share.items * l.self.workers)
    × EachFrom (λ turn. GivesLeaf (g.L.LeafJob.gives l.self.each.now) l.self.leaves.now (l.worker + turn * l.self.workers)) 0 l.share.items

abbrev pub decreases-loop-next : goal.decreases-loop-next
decreases-loop-next g l = length l.self.leaves.now - l.next
