use Rattle.std.proofs.Common.{◌≡◌, length}
use Rattle.span_core.specs.Each.{EachFrom}
use Rattle.span_core.specs.Shares.{GivesLeaf, IsShare}
use Rattle.span_core.proofs.leaf_shares.Shares.gather.Given as goal

abbrev pub invariant-loop-leaf : goal.invariant-loop-leaf
invariant-loop-leaf g l =
    let P : _ = GivesLeaf (g.L.LeafJob.gives l.self.each.now) l.self.leaves.now in
    EachFrom (λ worker share. IsShare P (length l.self.leaves.now) l.self.workers worker share.items) l._leaf l.shares.items
    × (length l.shares.items ≡ l.self.workers)
    × EachFrom P 0 l.all.items
    × (length l.all.items ≡ l._leaf)
